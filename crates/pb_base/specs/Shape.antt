-- The rule that the outermost form of a formula stands for.
use Rattle.pb_base.specs.Rule.{Rule, code, negation, both, either, always, never}
use Rattle.pb_base.specs.declared.part.Shape.{Shape}
use Rattle.pb_base.specs.declared.part.Shape.TheVariants.{Code, Not, And, Or, Yes, No}

abbrev pub rule_of_shape : Shape → Rule
rule_of_shape (Code place) = code place
rule_of_shape (Not f) = negation f
rule_of_shape (And f g) = both f g
rule_of_shape (Or f g) = either f g
rule_of_shape Yes = always
rule_of_shape No = never
