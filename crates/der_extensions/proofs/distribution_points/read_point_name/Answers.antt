use Rattle.std.proofs.Common.{rules}
use Rattle.der_extensions.proofs.PointLaws.{full_name_chosen, relative_name_chosen}
use Rattle.der_extensions.proofs.distribution_points.read_point_name.Goals as goal

pub returns-then-is_next : goal.returns-then-is_next
returns-then-is_next c = full_name_chosen (search rules) c.read_full_name.ensures

pub returns : goal.returns
returns c = relative_name_chosen (search rules) c.read_relative_name.ensures
