-- The limits of a run, as numbers.
use Rattle.std.specs.Prelude.{◌≡◌}
use Rattle.pb_base.specs.declared.limits.TheConstants.{MOST_TEXT_BYTES, MOST_CODES, MOST_SUPPLEMENTS, MOST_CONSTRUCTS, MOST_GROUPS, LEAST_GROUP_CODES, MOST_GROUP_CODES, MOST_MODULES, MOST_POSITIONS, MOST_VARIANTS, MOST_CHOICES, MOST_NODES, MOST_NESTING, LAST_DAY, MOST_SLICES, MOST_QUESTIONS, MOST_CERT_BYTES, MOST_BUDGET, DEFAULT_BUDGET}
use Rattle.order_desk.specs.declared.limits.TheConstants.{MOST_DRAFTS, MOST_BOOKS, MOST_ORDERS, MOST_REVISION, MOST_ORDER_NUMBER}
use Rattle.desk_run.specs.declared.run.TheConstants.{MOST_STEPS}
use Rattle.book_commands.specs.Inputs.{input_limit}

-- of a book, by what BOOK-FORMAT.md says of its records
pub record BookLimits : Type 0 where
  pub bytes : MOST_TEXT_BYTES ≡ 1048576
  pub codes : MOST_CODES ≡ 2000
  pub supplements : MOST_SUPPLEMENTS ≡ 5000
  pub constructs : MOST_CONSTRUCTS ≡ 10000
  pub groups : MOST_GROUPS ≡ 1000
  pub least_of_group : LEAST_GROUP_CODES ≡ 2
  pub most_of_group : MOST_GROUP_CODES ≡ 64
  pub modules : MOST_MODULES ≡ 1000
  pub positions : MOST_POSITIONS ≡ 5000
  pub variants : MOST_VARIANTS ≡ 20000
  pub choices : MOST_CHOICES ≡ 200
  pub nodes : MOST_NODES ≡ 512
  pub nesting : MOST_NESTING ≡ 64
  pub last_day : LAST_DAY ≡ 99999

-- of a check, and of a certificate
pub record CheckLimits : Type 0 where
  pub slices : MOST_SLICES ≡ 64
  pub questions : MOST_QUESTIONS ≡ 200000
  pub certificate : MOST_CERT_BYTES ≡ 67108864
  pub budget : MOST_BUDGET ≡ 50000
  pub budget_unsaid : DEFAULT_BUDGET ≡ 10000

-- of a desk
pub record DeskLimits : Type 0 where
  pub drafts : MOST_DRAFTS ≡ 1024
  pub books : MOST_BOOKS ≡ 256
  pub orders : MOST_ORDERS ≡ 200000
  pub revision : MOST_REVISION ≡ 4000000000
  pub order_number : MOST_ORDER_NUMBER ≡ 999999999
  pub steps : MOST_STEPS ≡ 1000000

pub record HasLimits : Type 0 where
  -- one byte more than a text may have is read
  pub input : input_limit ≡ 1048577
  pub book : BookLimits
  pub check : CheckLimits
  pub desk : DeskLimits
