-- Relations are of one kind each.
use Rattle.std.proofs.Common.{◌≡◌, Bool, true, false, refl, arith}
use Rattle.std.specs.Prelude.{◌+◌, if◌then◌else◌}
use Rattle.set_meaning.specs.declared.problems.Relation.{Relation}
use Rattle.set_meaning.specs.declared.problems.Relation.TheVariants.{SetEq}
use Rattle.set_shapes.specs.Shapes.{is_shape as is_set_shape}
use Rattle.card_diagram.specs.Shapes.{is_shape as is_card_shape}
use Rattle.int_channel.specs.Shapes.{is_shape as is_scalar_shape}
use Rattle.propagators.specs.Relations.{kinds_of_relation}

pub one_kind : (r : Relation) → kinds_of_relation r ≡ 1
one_kind SetEq = refl
one_kind _ = refl

third : (a b c : Bool) → ((if a then 1 else 0) + (if b then 1 else 0) + (if c then 1 else 0)) ≡ 1 → a ≡ false → b ≡ false → c ≡ true
third true b c h x y = absurd (cc)
third false true c h x y = absurd (cc)
third false false true h x y = refl
third false false false h x y = absurd (omega (arith, h))

pub else_scalar : (r : Relation) → is_set_shape r ≡ false → is_card_shape r ≡ false → is_scalar_shape r ≡ true
else_scalar r = third (is_set_shape r) (is_card_shape r) (is_scalar_shape r) (one_kind r)
