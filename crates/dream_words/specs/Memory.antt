-- Memories of 2^32 bytes. A word of several bytes is little-endian (Intel SDM vol. 1, 1.3.1), and the address of each
-- of its bytes is taken modulo 2^32.
use Rattle.std.specs.Prelude.{◌≡◌, ℕ, zero, suc, ◌+◌, ◌*◌, ◌/◌, ◌%◌, ◌^◌, ◌<◌, Bool, not, ◌==◌, if◌then◌else◌, unwrap_or, List, [], ◌∷◌}
use Rattle.std.specs.Ordering.{nat_cmp}
use Rattle.std.specs.FinMap.{FinMap, empty, get, insert, remove}
use Rattle.dream_words.specs.declared.machine.Width.{Width}
use Rattle.dream_words.specs.declared.machine.Width.TheVariants as width

-- A memory: the bytes that are not 0, by address. Of the memories that a program makes, those with equal bytes are equal.
abbrev pub Mem : Type 0
Mem = FinMap nat_cmp ℕ

-- every byte is 0
abbrev pub no_bytes : Mem
no_bytes = empty

-- the byte at an address; one that is absent is 0
abbrev pub byte_at : Mem → ℕ → ℕ
byte_at m a = unwrap_or (get m a) 0

-- the memory after a byte is set; a byte that becomes 0 is no longer kept
abbrev pub with_byte : Mem → ℕ → ℕ → Mem
with_byte m a zero = remove m a
with_byte m a (suc v) = insert m a (suc v)

-- the memory that a list of addresses and bytes makes, in which the first pair of an address counts
abbrev pub seen : List (ℕ × ℕ) → Mem
seen [] = no_bytes
seen (e ∷ es) = with_byte (seen es) e.0 e.1

-- the word of k bytes at an address
abbrev pub load : Mem → ℕ → ℕ → ℕ
load m a zero = 0
load m a (suc k) = byte_at m (a % 2 ^ 32) + 256 * load m (a + 1) k

-- the low k bytes of a word are put at an address
abbrev pub store : Mem → ℕ → ℕ → ℕ → Mem
store m a zero v = m
store m a (suc k) v = store (with_byte m (a % 2 ^ 32) (v % 256)) (a + 1) k (v / 256)

abbrev pub bytes_of : Width → ℕ
bytes_of width.B = 1
bytes_of width.H = 2
bytes_of width.W = 4

-- the bytes of a list are put at an address and the ones after it
abbrev pub place : Mem → ℕ → List ℕ → Mem
place m a [] = m
place m a (v ∷ vs) = place (with_byte m (a % 2 ^ 32) v) (a + 1) vs

-- how many numbers below n pass a test
unfoldable pub count_below : ℕ → (ℕ → Bool) → ℕ
count_below zero test = 0
count_below (suc n) test = count_below n test + (if test n then 1 else 0)

-- at how many addresses two memories have different bytes
abbrev pub differences : Mem → Mem → ℕ
differences m n = count_below (2 ^ 32) (λ a. not (byte_at m a == byte_at n a))

-- equal bytes at every address
abbrev pub SameMemory : Mem → Mem → Type 0
SameMemory m n = (a : ℕ) → a < 2 ^ 32 → byte_at m a ≡ byte_at n a
