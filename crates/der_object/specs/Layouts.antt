-- The code's layout as a style of texts.
use Rattle.der_base.specs.Pretty.{Style}
use Rattle.der_object.specs.declared.text.Layout.{Layout}

abbrev pub style : Layout → Style
style l = record { recursive = l.recursive; headers = l.headers; increment = l.increment }
