use Rattle.std.proofs.Common.{refl, rules, sym, subst, ◌≡◌, None}
use Rattle.log_rules.specs.Rules.{IsInPlace, IsValidAfter}
use Rattle.log_checker.specs.Body.{log_of}
use Rattle.log_checker.proofs.Verdicts.{first_two, none_ends, all_kept, header_rest, end_rest}
use Rattle.log_checker.proofs.lines.first_broken.Goals as goal

pub node-requires : goal.node-requires
node-requires c =
    let none : c.args.check.now.earlier.now.end ≡ None = search rules in
    record { before = first_two _ _ _ (none_ends _ none) (subst (IsInPlace (log_of c.args.check.now.earlier.now)) c.in-Node.is (c.if-not-is_in_place.ensures.0 refl)) }

pub axiom-requires-clause-before : goal.axiom-requires-clause-before
axiom-requires-clause-before c =
    let none : c.args.check.now.earlier.now.end ≡ None = search rules in
    first_two _ _ _ (none_ends _ none) (subst (IsInPlace (log_of c.args.check.now.earlier.now)) c.in-Axiom.is (c.if-not-is_in_place.ensures.0 refl))

pub answer-requires-clause-before : goal.answer-requires-clause-before
answer-requires-clause-before c =
    let none : c.args.check.now.earlier.now.end ≡ None = search rules in
    first_two _ _ _ (none_ends _ none) (subst (IsInPlace (log_of c.args.check.now.earlier.now)) c.in-Answer.is (c.if-not-is_in_place.ensures.0 refl))

pub resolvent-requires-clause-before : goal.resolvent-requires-clause-before
resolvent-requires-clause-before c =
    let none : c.args.check.now.earlier.now.end ≡ None = search rules in
    first_two _ _ _ (none_ends _ none) (subst (IsInPlace (log_of c.args.check.now.earlier.now)) c.in-Resolvent.is (c.if-not-is_in_place.ensures.0 refl))

pub learned-requires : goal.learned-requires
learned-requires c =
    let none : c.args.check.now.earlier.now.end ≡ None = search rules in
    record { before = first_two _ _ _ (none_ends _ none) (subst (IsInPlace (log_of c.args.check.now.earlier.now)) c.in-Learned.is (c.if-not-is_in_place.ensures.0 refl)) }

pub close-requires-clause-before : goal.close-requires-clause-before
close-requires-clause-before c =
    let none : c.args.check.now.earlier.now.end ≡ None = search rules in
    first_two _ _ _ (none_ends _ none) (subst (IsInPlace (log_of c.args.check.now.earlier.now)) c.in-Close.is (c.if-not-is_in_place.ensures.0 refl))

pub returns-in-Header : goal.returns-in-Header
returns-in-Header c =
    let none : c.args.check.now.earlier.now.end ≡ None = search rules in
    subst (IsValidAfter c.args.check.now.problem.now (log_of c.args.check.now.earlier.now)) (sym c.in-Header.is)
    (all_kept _ _ _ (header_rest _ _ (first_two _ _ _ (none_ends _ none) (subst (IsInPlace (log_of c.args.check.now.earlier.now)) c.in-Header.is (c.if-not-is_in_place.ensures.0 refl)))))

pub returns-in-End : goal.returns-in-End
returns-in-End c =
    let none : c.args.check.now.earlier.now.end ≡ None = search rules in
    subst (IsValidAfter c.args.check.now.problem.now (log_of c.args.check.now.earlier.now)) (sym c.in-End.is)
    (all_kept _ _ _ (end_rest _ _ (first_two _ _ _ (none_ends _ none) (subst (IsInPlace (log_of c.args.check.now.earlier.now)) c.in-End.is (c.if-not-is_in_place.ensures.0 refl)))))
