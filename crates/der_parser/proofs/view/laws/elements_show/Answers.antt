use Rattle.der_parser.proofs.ViewLaws.ElementViews as views
use Rattle.der_parser.proofs.view.laws.elements_show.Goals as goal

pub returns-clause-all : goal.returns-clause-all
returns-clause-all c = views.elements_show

pub returns-clause-one : goal.returns-clause-one
returns-clause-one c = views.element_shows
