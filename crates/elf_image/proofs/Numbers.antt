-- Numbers at places of a file, as the bytes from that place on give them.
use Rattle.std.proofs.Common.{◌≡◌, ◌+◌, ◌-◌, ℕ, zero, suc, List, length, take, drop, refl, ap, ◌∙◌, arith, add-zero}
use Rattle.std.proofs.lemmas.List.{take_rest, get_or-drop}
use Rattle.byteorder.specs.Endian.{little_from, little_number}
use Rattle.elf_image.specs.Header.{number_at}

from : (xs : List ℕ) (p i n : ℕ) → little_from i n (drop p xs) ≡ number_at xs (p + i) n
from xs p i zero = refl
from xs p i (suc n) =
    let e : p + suc i ≡ p + i + 1 = omega arith in
    let rest : little_from (suc i) n (drop p xs) ≡ number_at xs (p + i + 1) n = from xs p (suc i) n ∙ ap (λ q. number_at xs q n) e in
    rw (get_or-drop p xs i 0, rest) refl

-- the number that the bytes from a place on begin with
pub number_is : (xs : List ℕ) (p n : ℕ) → little_number n (take (length xs - p) (drop p xs)) ≡ number_at xs p n
number_is xs p n = ap (little_number n) (take_rest xs p) ∙ from xs p 0 n ∙ ap (λ q. number_at xs q n) (add-zero p)
