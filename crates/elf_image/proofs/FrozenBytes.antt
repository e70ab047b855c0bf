-- The frozen bytes from an address on, one at a time.
use Rattle.std.proofs.Common.{◌≡◌, ◌<◌, ◌+◌, ◌-◌, ℕ, zero, suc, List, [], ◌∷◌, ◌++◌, Some, None, sym, ap, ◌∙◌, arith, append-nil, append_assoc}
use Rattle.elf_image.specs.declared.image.Segment.{Segment}
use Rattle.elf_image.specs.Image.{frozen_byte}
use Rattle.elf_image.specs.Range.{frozen_from, before_some}

-- where no byte is frozen there are no more
pub none_more : (m : List Segment) (a n : ℕ) (bytes : List ℕ) → frozen_byte m a ≡ None → bytes ++ frozen_from m a n ≡ bytes
none_more m a zero bytes e = append-nil bytes
none_more m a (suc n) bytes e = ap (λ o. bytes ++ before_some o (frozen_from m (a + 1) n)) e ∙ append-nil bytes

-- a frozen byte, and then the ones after it
pub one_more : (m : List Segment) (a n b : ℕ) (bytes : List ℕ) → frozen_byte m a ≡ Some b → 0 < n
    → bytes ++ frozen_from m a n ≡ (bytes ++ b ∷ []) ++ frozen_from m (a + 1) (n - 1)
one_more m a zero b bytes e lt = absurd (omega (arith, lt))
one_more m a (suc n) b bytes e lt =
    let one : suc n - 1 ≡ n = omega arith in
    ap (λ o. bytes ++ before_some o (frozen_from m (a + 1) n)) e
    ∙ sym (append_assoc bytes (b ∷ []) (frozen_from m (a + 1) n))
    ∙ ap (λ k. (bytes ++ b ∷ []) ++ frozen_from m (a + 1) k) (sym one)
