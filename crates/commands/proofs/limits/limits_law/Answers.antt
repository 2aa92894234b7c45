use Rattle.std.proofs.Common.{refl}
use Rattle.commands.proofs.limits.limits_law.Goals as goal

pub returns : goal.returns
returns c = record {
  input = refl;
  book = record {
    bytes = refl;
    codes = refl;
    supplements = refl;
    constructs = refl;
    groups = refl;
    least_of_group = refl;
    most_of_group = refl;
    modules = refl;
    positions = refl;
    variants = refl;
    choices = refl;
    nodes = refl;
    nesting = refl;
    last_day = refl;
  };
  check = record { slices = refl; questions = refl; certificate = refl; budget = refl; budget_unsaid = refl };
  desk = record { drafts = refl; books = refl; orders = refl; revision = refl; order_number = refl; steps = refl };
}
