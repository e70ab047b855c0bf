-- The bytes of a table, one after another.
use Rattle.std.proofs.Common.{◌≡◌, ℕ, zero, suc, ◌+◌, ◌%◌, ◌^◌, ◌<◌, inl, inr, Bool, true, false, ◌&&◌, List, Some, None, is_some, refl, sym, ap, ◌∙◌, arith, add-one}
use Rattle.std.proofs.lemmas.Bool.{cases_lt, and_from}
use Rattle.elf_image.specs.declared.image.Segment.{Segment}
use Rattle.elf_image.specs.Image.{frozen_byte}
use Rattle.jump_tables.specs.Found.{all_frozen}

-- one more frozen byte
pub frozen_next : (m : List Segment) (t k b : ℕ) → all_frozen m t k ≡ true → frozen_byte m ((t + k) % 2 ^ 32) ≡ Some b → all_frozen m t (k + 1) ≡ true
frozen_next m t k b h e = rw (add-one k) (and_from (all_frozen m t k) (is_some (frozen_byte m ((t + k) % 2 ^ 32))) h (ap is_some e))

and_false : (a b : Bool) → b ≡ false → (a && b) ≡ false
and_false true b e = e
and_false false b e = refl

-- one byte that isn't frozen
pub unfrozen : (m : List Segment) (t k n : ℕ) → k < n → frozen_byte m ((t + k) % 2 ^ 32) ≡ None → all_frozen m t n ≡ false
unfrozen m t k zero lt e = absurd (omega (arith, lt))
unfrozen m t k (suc n) lt e = elim (cases_lt k n) [
  | inl less ↦ ap (λ (a : Bool). a && is_some (frozen_byte m ((t + n) % 2 ^ 32))) (unfrozen m t k n less e)
  | inr le ↦ (let j : k ≡ n = omega (arith, lt, le) in
      and_false (all_frozen m t n) (is_some (frozen_byte m ((t + n) % 2 ^ 32))) (ap (λ i. is_some (frozen_byte m ((t + i) % 2 ^ 32))) (sym j) ∙ ap is_some e))
]
