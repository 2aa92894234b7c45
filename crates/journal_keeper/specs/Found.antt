-- What was found in a file, before its rows are made.
use Rattle.keeper.specs.Rows.{Kept, bare}
use Rattle.journal_keeper.specs.declared.loading.Found.{Found}
use Rattle.journal_keeper.specs.declared.loading.Found.TheVariants.{Bare, Journal}
use Rattle.journal_keeper.specs.Tables.{kept_by}

abbrev pub kept_by_found : Found → Kept
kept_by_found (Bare form) = bare form
kept_by_found (Journal tables) = kept_by tables
