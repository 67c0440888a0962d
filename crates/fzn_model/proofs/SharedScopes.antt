-- The variables of a constraint whose constant sets and arrays are shared.
use Rattle.std.proofs.Common.{◌≡◌, List, [], ◌∷◌, ◌++◌, refl, ap, sym, ◌∙◌, append-nil}
use Rattle.std.specs.Prelude.{Option, Some, None, map, option_to_list}
use Rattle.std.specs.List.{cons_option, filter_map, flat_map}
use Rattle.std.specs.Option.{option_map}
use Rattle.std.proofs.lemmas.List.Elements.{filter_map-append}
use Rattle.set_meaning.specs.declared.problems.VarId.{VarId}
use Rattle.set_meaning.specs.Relations.{terms_of, variable_of}
use Rattle.fzn_model.specs.declared.shared.SharedTerm.{SharedTerm}
use Rattle.fzn_model.specs.declared.shared.SharedArg.{SharedArg}
use Rattle.fzn_model.specs.declared.shared.SharedArg.TheVariants as args
use Rattle.fzn_model.specs.Shared.{arg_in, term_in, variables_in, variables_in_arg}

in_front : (o : Option VarId) (vs : List VarId) → option_to_list o ++ vs ≡ cons_option o vs
in_front None vs = refl
in_front (Some v) vs = refl

of_terms : (terms : List SharedTerm) → flat_map variables_in terms ≡ filter_map variable_of (map term_in terms)
of_terms [] = refl
of_terms (t ∷ terms) =
    in_front (variable_of (term_in t)) (flat_map variables_in terms) ∙ ap (cons_option (variable_of (term_in t))) (of_terms terms)

of_arg : (arg : SharedArg) → variables_in_arg arg ≡ filter_map variable_of (terms_of (arg_in arg))
of_arg (args.One t) = sym (append-nil (variables_in t)) ∙ of_terms (t ∷ [])
of_arg (args.Many terms) = of_terms terms.value.items

of_args : (xs : List SharedArg) → flat_map variables_in_arg xs ≡ filter_map variable_of (flat_map terms_of (map arg_in xs))
of_args [] = refl
of_args (x ∷ xs) =
    ap (λ vs. vs ++ flat_map variables_in_arg xs) (of_arg x)
    ∙ (ap (λ vs. filter_map variable_of (terms_of (arg_in x)) ++ vs) (of_args xs)
    ∙ sym (filter_map-append variable_of (terms_of (arg_in x)) (flat_map terms_of (map arg_in xs))))

of_truth : (o : Option SharedTerm) → flat_map variables_in (option_to_list o) ≡ filter_map variable_of (option_to_list (option_map term_in o))
of_truth None = refl
of_truth (Some t) = of_terms (t ∷ [])

-- the variables of the arguments, and behind them that of the truth value
pub of_parts : (xs : List SharedArg) (o : Option SharedTerm)
    → filter_map variable_of (flat_map terms_of (map arg_in xs) ++ option_to_list (option_map term_in o))
    ≡ flat_map variables_in_arg xs ++ flat_map variables_in (option_to_list o)
of_parts xs o =
    filter_map-append variable_of (flat_map terms_of (map arg_in xs)) (option_to_list (option_map term_in o))
    ∙ (ap (λ vs. vs ++ filter_map variable_of (option_to_list (option_map term_in o))) (sym (of_args xs))
    ∙ ap (λ vs. flat_map variables_in_arg xs ++ vs) (sym (of_truth o)))
