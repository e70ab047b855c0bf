-- What is open is kept from outside inwards, and listed from inside outwards.
use Rattle.std.proofs.Common.{◌≡◌, ◌-◌, Bool, true, false, ◌||◌, List, [], ◌∷◌, ◌++◌, length, reverse, refl, sym, ap, ◌∙◌, arith}
use Rattle.std.specs.List.{list_any}
use Rattle.std.proofs.lemmas.List.{reverse-append, length-reverse}
use Rattle.std.proofs.lemmas.Grind.{reverse_onto}
use Rattle.read_statements.specs.declared.open.Nest.{Nest}
use Rattle.read_statements.specs.declared.open.Nest.TheVariants as nest
use Rattle.read_statements.specs.declared.open.Open.{Open}
use Rattle.read_statements.specs.Turns.{breaks_in, breakable, depth_left}

pub pushed : (os : List Open) (o : Open) → reverse (os ++ o ∷ []) ≡ o ∷ reverse os
pushed os o = reverse-append os (o ∷ [])

depth_is : (os : List Open) → depth_left os ≡ 512 - length os
depth_is [] = refl
depth_is (o ∷ os) = ap (λ d. d - 1) (depth_is os) ∙ omega arith

pub depth_reversed : (os : List Open) → 512 - length os ≡ depth_left (reverse os)
depth_reversed os = ap (λ n. 512 - n) (sym (length-reverse os)) ∙ sym (depth_is (reverse os))

-- a `break` inside a Body of this ends there
abbrev pub catches : Open → Bool
catches o = breaks_in false o.nest

breaks_either : (b : Bool) (n : Nest) → breaks_in b n ≡ (breaks_in false n || b)
breaks_either b (nest.Arm arms c) = refl
breaks_either b (nest.Else arms) = refl
breaks_either b nest.Loop = refl
breaks_either b (nest.While c) = refl
breaks_either b nest.Do = refl
breaks_either b (nest.Group s values) = refl
breaks_either b (nest.Default e groups) = refl

breakable_is : (os : List Open) → breakable os ≡ list_any catches os
breakable_is [] = refl
breakable_is (o ∷ os) = breaks_either (breakable os) o.nest ∙ ap (λ b. catches o || b) (breakable_is os)

any_append : (xs ys : List Open) → list_any catches (xs ++ ys) ≡ (list_any catches xs || list_any catches ys)
any_append [] ys = refl
any_append (x ∷ xs) ys = ap (λ b. catches x || b) (any_append xs ys) ∙ grouped (catches x) (list_any catches xs) (list_any catches ys)
  where
    grouped : (p q r : Bool) → (p || (q || r)) ≡ ((p || q) || r)
    grouped true q r = refl
    grouped false q r = refl

any_reversed : (os : List Open) → list_any catches (reverse os) ≡ list_any catches os
any_reversed [] = refl
any_reversed (o ∷ os) =
    ap (list_any catches) (reverse_onto os o [])
    ∙ any_append (reverse os) (o ∷ [])
    ∙ turned (list_any catches (reverse os)) (catches o)
    ∙ ap (λ b. catches o || b) (any_reversed os)
  where
    turned : (p q : Bool) → (p || (q || false)) ≡ (q || p)
    turned true true = refl
    turned true false = refl
    turned false true = refl
    turned false false = refl

pub breakable_reversed : (os : List Open) → list_any catches os ≡ breakable (reverse os)
breakable_reversed os = sym (any_reversed os) ∙ sym (breakable_is (reverse os))
