use Rattle.std.proofs.Common.{ℕ, List, ◌≡◌, ◌+◌, ◌*◌, ◌∙◌, length, map, sym, ap, subst, arith}
use Rattle.std.proofs.lemmas.List.{length-map}
use Rattle.book_model.specs.declared.record.Slice.{Slice}
use Rattle.clause_pool.specs.Clause.{AreBelow}
use Rattle.clausify.specs.Formulas.{literals_from}
use Rattle.guarded_rules.specs.Guarded.{AllGuardedFit, IsGuarded}
use Rattle.guarded_rules.proofs.MadeLaws.{made_below}
use Rattle.book_clauses.specs.BookClauses.{AreUsages, CodesBook}
use Rattle.book_clauses.specs.Coding.{book_items, book_rules}
use Rattle.book_clauses.proofs.BookLaws.{book_usages, codes_book, rule_of}
use Rattle.book_clauses.proofs.MeetLaws.{book_fit}
use Rattle.book_clauses.proofs.StepLaws.{length-literals_from}
use Rattle.book_clauses.proofs.coding.book_clauses.Goals as goal

pub returns-clause-codes : goal.returns-clause-codes
returns-clause-codes c =
    let truth : c.add_usages.new.encoder.truth ≡ length c.args.book.now.codes + length c.in_ok-periods.periods.items =
    c.in_ok-usages.ensures.truth ∙ c.in_ok-add_constructs.ensures.truth ∙ c.in_ok-add_supplements.ensures.truth ∙ c.in_ok-encoder.ensures.truth
    ∙ ap (λ (ps : List Slice). length c.args.book.now.codes + length ps) c.deref.ensures.value in
    subst (CodesBook c.args.book.now c.in_ok-periods.periods.items) (sym c.into_parts-pool.ensures.clauses)
    (codes_book c.args.book.now c.in_ok-periods.periods.items c.add_usages.new.encoder c.in_ok-encoder.ensures.book c.in_ok-periods.ensures.supplements
    c.in_ok-periods.ensures.constructs truth
    (c.in_ok-usages.ensures.made (book_rules c.args.book.now c.in_ok-periods.periods.items) (subst (λ (ps : List Slice). IsGuarded (book_rules c.args.book.now ps) c.add_constructs.new.encoder) c.deref-3.ensures.value c.in_ok-add_constructs.ensures.made)))

pub returns-clause-below : goal.returns-clause-below
returns-clause-below c =
    let truth : c.add_usages.new.encoder.truth ≡ length c.args.book.now.codes + length c.in_ok-periods.periods.items =
    c.in_ok-usages.ensures.truth ∙ c.in_ok-add_constructs.ensures.truth ∙ c.in_ok-add_supplements.ensures.truth ∙ c.in_ok-encoder.ensures.truth
    ∙ ap (λ (ps : List Slice). length c.args.book.now.codes + length ps) c.deref.ensures.value in
    subst (λ (cs : List (List ℕ)). AreBelow (2 * c.into_parts-pool.result.vars) cs) (sym c.into_parts-pool.ensures.clauses)
    (subst (λ (v : ℕ). AreBelow (2 * v) c.add_usages.new.encoder.pool.clauses) (sym c.into_parts-pool.ensures.vars)
    (made_below (book_items c.args.book.now c.in_ok-periods.periods.items) c.add_usages.new.encoder
    (subst (λ (m : ℕ). AllGuardedFit m (book_items c.args.book.now c.in_ok-periods.periods.items)) (sym truth)
    (book_fit c.args.book.now c.in_ok-periods.periods.items c.in_ok-encoder.ensures.book))
    (c.in_ok-usages.ensures.made (book_rules c.args.book.now c.in_ok-periods.periods.items) (subst (λ (ps : List Slice). IsGuarded (book_rules c.args.book.now ps) c.add_constructs.new.encoder) c.deref-3.ensures.value c.in_ok-add_constructs.ensures.made))))

pub returns-clause-usages : goal.returns-clause-usages
returns-clause-usages c =
    let truth : c.add_usages.new.encoder.truth ≡ length c.args.book.now.codes + length c.in_ok-periods.periods.items =
    c.in_ok-usages.ensures.truth ∙ c.in_ok-add_constructs.ensures.truth ∙ c.in_ok-add_supplements.ensures.truth ∙ c.in_ok-encoder.ensures.truth
    ∙ ap (λ (ps : List Slice). length c.args.book.now.codes + length ps) c.deref.ensures.value in
    subst (λ (cs : List (List ℕ)). AreUsages c.args.book.now cs c.into_parts-pool.result.vars c.in_ok-usages.usages.items) (sym c.into_parts-pool.ensures.clauses)
    (subst (λ (v : ℕ). AreUsages c.args.book.now c.add_usages.new.encoder.pool.clauses v c.in_ok-usages.usages.items) (sym c.into_parts-pool.ensures.vars)
    (book_usages c.args.book.now c.in_ok-periods.periods.items c.add_usages.new.encoder c.add_constructs.new.encoder.next c.in_ok-usages.usages.items
    c.in_ok-encoder.ensures.book truth
    (c.in_ok-usages.ensures.made (book_rules c.args.book.now c.in_ok-periods.periods.items) (subst (λ (ps : List Slice). IsGuarded (book_rules c.args.book.now ps) c.add_constructs.new.encoder) c.deref-3.ensures.value c.in_ok-add_constructs.ensures.made))
    (omega (arith, (subst (λ (ps : List Slice). IsGuarded (book_rules c.args.book.now ps) c.add_constructs.new.encoder) c.deref-3.ensures.value c.in_ok-add_constructs.ensures.made).variables, c.in_ok-usages.ensures.truth))
    (c.in_ok-usages.ensures.usages
    ∙ ap (λ (t : ℕ). literals_from t c.add_constructs.new.encoder.next (map rule_of c.args.book.now.variants)) (sym c.in_ok-usages.ensures.truth))))

pub returns-clause-counted : goal.returns-clause-counted
returns-clause-counted c =
    ap length c.in_ok-usages.ensures.usages ∙ length-literals_from _ _ (map rule_of c.args.book.now.variants) ∙ length-map c.args.book.now.variants rule_of
