-- What a desk keeps and the other book determine what is told.
use Rattle.std.proofs.Common.{◌≡◌, ◌∙◌, ℕ, suc, List, [], ◌∷◌, ◌++◌, Some, length, refl, sym, ap, ap₂, subst, arith}
use Rattle.std.specs.Prelude.{Option, None, codes}
use Rattle.book_model.specs.Contents.{Contents}
use Rattle.pb_base.specs.Lines.{line, number_behind}
use Rattle.desk_words.specs.declared.order_words.OrderWords.{OrderWords}
use Rattle.order_again.specs.Again.{AreAgain, IsAgain, IsAgainOf}
use Rattle.order_again.specs.ImpactText.{counts_text, impact_text}
use Rattle.order_again.specs.StockText.{again_text, lines_from, stock_line, stock_text}
use Rattle.order_again.specs.declared.kept.Stock.{Stock}
use Rattle.order_again.specs.declared.outcome.Again.{Again}
use Rattle.order_again.proofs.AloneLaws.{alone, first_again, more_again}
use Rattle.order_desk.specs.Tables.{Tables, book_at}
use Rattle.order_desk.specs.declared.kept_book.KeptBook.{KeptBook}
use Rattle.order_desk.specs.declared.order_key.OrderKey.{OrderKey}
use Rattle.release.specs.Release.{Release}
use Rattle.book_commands.specs.RunReply.{RunReply}
use Rattle.book_commands.specs.declared.run_status.RunStatus.TheVariants as statuses
use Rattle.command_words.specs.Rejudging.{Rejudging}
use Rattle.commands.specs.Impacted.{RepliesToImpact}
use Rattle.commands.specs.Rejudged.{AreStock, IsKeptStock, RepliesAgain, RepliesBy, RepliesToRejudge}

-- one order, stocked twice
module _ (books : List KeptBook) (key : OrderKey) (order : OrderWords) (s s' : Stock) (kept : IsKeptStock books key order s) (kept' : IsKeptStock books key order s') where
  same_words : s'.order ≡ s.order
  same_words = kept'.stock.words ∙ sym kept.stock.words

  same_own : s'.book.value ≡ s.book.value
  same_own =
      let found : Some kept'.book ≡ Some kept.book = sym kept'.there ∙ kept.there in
      let book : kept'.book ≡ kept.book = cc in
      kept'.stock.own ∙ ap (λ (b : KeptBook). b.released) book ∙ sym kept.stock.own

  one_again : (to : Contents) (a a' : Again) → IsAgainOf to s a → IsAgainOf to s' a' → a ≡ a'
  one_again to a a' h h' =
      alone s.book.value.book to s.order.day s.order.codes a a' h
      (subst (λ (o : OrderWords). IsAgain s.book.value.book to o.day o.codes a') same_words
      (subst (λ (r : Release). IsAgain r.book to s'.order.day s'.order.codes a') same_own h'))

  one_line : (to : Contents) (a a' : Again) → a ≡ a' → stock_line to s a ≡ stock_line to s' a'
  one_line to a a' same =
      ap (λ (caller : List ℕ). caller ++ number_behind s.number ++ codes " " ++ again_text to a) (kept.stock.caller ∙ sym kept'.stock.caller)
      ∙ ap (λ n. s'.caller ++ number_behind n ++ codes " " ++ again_text to a) (kept.stock.number ∙ sym kept'.stock.number)
      ∙ ap (λ again. s'.caller ++ number_behind s'.number ++ codes " " ++ again_text to again) same

-- all of them
record AreOne (to : Contents) (stock stock' : List Stock) (told told' : List Again) : Type 0 where
  count : length stock ≡ length stock'
  answers : told ≡ told'
  lines : lines_from to stock told ≡ lines_from to stock' told'

are_one : (to : Contents) (books : List KeptBook) (orders : List (OrderKey × OrderWords)) (stock stock' : List Stock) (told told' : List Again)
    → AreStock books orders stock → AreStock books orders stock' → AreAgain to stock told → AreAgain to stock' told' → AreOne to stock stock' told told'
are_one to books [] [] [] [] [] k k' h h' = record { count = refl; answers = refl; lines = refl }
are_one to books [] [] [] [] (a' ∷ told') k k' h h' = absurd (omega (arith, h'.count))
are_one to books [] [] [] (a ∷ told) told' k k' h h' = absurd (omega (arith, h.count))
are_one to books [] [] (s' ∷ stock') told told' k k' h h' = absurd k'
are_one to books [] (s ∷ stock) stock' told told' k k' h h' = absurd k
are_one to books (e ∷ orders) [] stock' told told' k k' h h' = absurd k
are_one to books (e ∷ orders) (s ∷ stock) [] told told' k k' h h' = absurd k'
are_one to books (e ∷ orders) (s ∷ stock) (s' ∷ stock') [] told' k k' h h' = absurd (omega (arith, h.count))
are_one to books (e ∷ orders) (s ∷ stock) (s' ∷ stock') (a ∷ told) [] k k' h h' = absurd (omega (arith, h'.count))
are_one to books (e ∷ orders) (s ∷ stock) (s' ∷ stock') (a ∷ told) (a' ∷ told') k k' h h' =
    let same : a ≡ a' = one_again books e.0 e.1 s s' k.0 k'.0 to a a' (first_again to s stock a told h) (first_again to s' stock' a' told' h') in
    let more = are_one to books orders stock stock' told told' k.1 k'.1 (more_again to s stock a told h) (more_again to s' stock' a' told' h') in
    record {
      count = ap suc more.count;
      answers = ap₂ (λ (x : Again) (xs : List Again). x ∷ xs) same more.answers;
      lines = ap₂ (λ (l ls : List ℕ). l ++ ls) (one_line books e.0 e.1 s s' k.0 k'.0 to a a' same) more.lines;
    }

one_text : (to : Contents) (stock stock' : List Stock) (told told' : List Again) → AreOne to stock stock' told told' → stock_text to stock told ≡ stock_text to stock' told'
one_text to stock stock' told told' one =
    ap₂ (λ (lines : List ℕ) n. lines ++ line (codes "end" ++ number_behind n)) one.lines one.count

one_counted : (to : Contents) (stock stock' : List Stock) (told told' : List Again) → AreOne to stock stock' told told' → impact_text to stock told ≡ impact_text to stock' told'
one_counted to stock stock' told told' one =
    ap₂ (λ (lines : List ℕ) n. lines ++ line (codes "end" ++ number_behind n ++ counts_text told)) one.lines one.count
    ∙ ap (λ (again : List Again). lines_from to stock' told' ++ line (codes "end" ++ number_behind (length stock') ++ counts_text again)) one.answers

again_one : (t : Tables) (to : Contents) (one two : RunReply) → RepliesAgain t to one → RepliesAgain t to two → one ≡ two
again_one t to one two h k =
    h.is ∙ ap (λ (text : List ℕ). record { text = text; status = statuses.Done; notes = [] })
    (one_text to h.stock k.stock h.told k.told (are_one to t.books t.orders h.stock k.stock h.told k.told h.kept k.kept h.again k.again)) ∙ sym k.is

by_one : (book : Option KeptBook) (t : Tables) (one two : RunReply) → RepliesBy book t one → RepliesBy book t two → one ≡ two
by_one (Some book) t one two h k = again_one t book.released.book one two h k
by_one None t one two h k = h ∙ sym k

pub one_rejudge : (asked other : Rejudging) (t : Tables) (one two : RunReply) → asked.book ≡ other.book → RepliesToRejudge asked t one → RepliesToRejudge other t two → one ≡ two
one_rejudge asked other t one two same h k =
    by_one (book_at t.books other.book) t one two (subst (λ (n : ℕ). RepliesBy (book_at t.books n) t one) same h) k

pub one_impact : (b : Contents) (t : Tables) (one two : RunReply) → RepliesToImpact b t one → RepliesToImpact b t two → one ≡ two
one_impact b t one two h k =
    h.is ∙ ap (λ (text : List ℕ). record { text = text; status = statuses.Done; notes = [] })
    (one_counted b h.stock k.stock h.told k.told (are_one b t.books t.orders h.stock k.stock h.told k.told h.kept k.kept h.again k.again)) ∙ sym k.is
