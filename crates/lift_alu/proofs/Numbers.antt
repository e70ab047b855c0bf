-- Sums and differences of low parts, as the words compute them modulo 2^32.
use Rattle.std.proofs.Common.{◌≡◌, ℕ, ◌+◌, ◌-◌, ◌^◌, ◌<◌, Bool, true, false, not, nat_eq, nat_lt, ◌&&◌, ◌||◌, arith, lit<}
use Rattle.std.proofs.lemmas.Nat.{pow_pos, mod_below}
use Rattle.std.proofs.lemmas.Bool.Decides.{nat_tests}
use Rattle.std.proofs.Math.Nat.{mod-eq_of_lt}
use Rattle.dream_words.specs.Words.{IsSize, low_part, bit_of, carries, borrows}
use Rattle.x86_model.specs.Arithmetic.{sum_of, difference_of}
use Rattle.lift_alu.proofs.Sizes.{by_size}

pub low_below : (bits x : ℕ) → low_part bits x < 2 ^ bits
low_below bits x = mod_below x (2 ^ bits) (pow_pos bits)

pub low_same : (bits x : ℕ) → x < 2 ^ bits → low_part bits x ≡ x
low_same bits x h = mod-eq_of_lt h

pub sum_below : (bits x y : ℕ) (c : Bool) → sum_of bits x y c < 2 ^ bits
sum_below bits x y c = low_below bits (x + y + bit_of c)

pub difference_below : (bits x y : ℕ) (c : Bool) → difference_of bits x y c < 2 ^ bits
difference_below bits x y c = low_below bits (low_part bits x + 2 ^ bits - (low_part bits y + bit_of c))

pub bit_below : (c : Bool) → bit_of c < 2
bit_below true = lit< tt
bit_below false = lit< tt

-- ---- the results

pub sum_is : (bits x y : ℕ) → IsSize bits → x < 2 ^ bits → y < 2 ^ bits → low_part bits (low_part 32 (x + y)) ≡ sum_of bits x y false
sum_is bits x y size =
    by_size (λ n. x < 2 ^ n → y < 2 ^ n → low_part n (low_part 32 (x + y)) ≡ sum_of n x y false)
    (λ p q. omega arith) (λ p q. omega arith) (λ p q. omega arith) bits size

pub sum_with_carry_is : (bits x y : ℕ) (c : Bool) → IsSize bits → x < 2 ^ bits → y < 2 ^ bits → low_part bits (low_part 32 (low_part 32 (x + y) + bit_of c)) ≡ sum_of bits x y c
sum_with_carry_is bits x y c size =
    let k : bit_of c < 2 = bit_below c in
    by_size (λ n. x < 2 ^ n → y < 2 ^ n → low_part n (low_part 32 (low_part 32 (x + y) + bit_of c)) ≡ sum_of n x y c)
    (λ p q. omega arith) (λ p q. omega arith) (λ p q. omega arith) bits size

pub difference_is : (bits x y : ℕ) → IsSize bits → x < 2 ^ bits → y < 2 ^ bits → low_part bits (low_part 32 (x + 2 ^ 32 - y)) ≡ difference_of bits x y false
difference_is bits x y size =
    by_size (λ n. x < 2 ^ n → y < 2 ^ n → low_part n (low_part 32 (x + 2 ^ 32 - y)) ≡ difference_of n x y false)
    (λ p q. omega arith) (λ p q. omega arith) (λ p q. omega arith) bits size

pub difference_with_borrow_is : (bits x y : ℕ) (c : Bool) → IsSize bits → x < 2 ^ bits → y < 2 ^ bits
    → low_part bits (low_part 32 (low_part 32 (x + 2 ^ 32 - y) + 2 ^ 32 - bit_of c)) ≡ difference_of bits x y c
difference_with_borrow_is bits x y c size =
    let k : bit_of c < 2 = bit_below c in
    by_size (λ n. x < 2 ^ n → y < 2 ^ n → low_part n (low_part 32 (low_part 32 (x + 2 ^ 32 - y) + 2 ^ 32 - bit_of c)) ≡ difference_of n x y c)
    (λ p q. omega arith) (λ p q. omega arith) (λ p q. omega arith) bits size

-- ---- carries and borrows, by a comparison

pub carry_is : (bits x y : ℕ) → IsSize bits → x < 2 ^ bits → y < 2 ^ bits → nat_lt (sum_of bits x y false) x ≡ carries bits x y false
carry_is bits x y size =
    by_size (λ n. x < 2 ^ n → y < 2 ^ n → nat_lt (sum_of n x y false) x ≡ carries n x y false)
    (λ p q. grind (arith, nat_tests)) (λ p q. grind (arith, nat_tests)) (λ p q. grind (arith, nat_tests)) bits size

pub borrow_is : (bits x y : ℕ) → IsSize bits → x < 2 ^ bits → y < 2 ^ bits → nat_lt x y ≡ borrows bits x y false
borrow_is bits x y size =
    by_size (λ n. x < 2 ^ n → y < 2 ^ n → nat_lt x y ≡ borrows n x y false)
    (λ p q. grind (arith, nat_tests)) (λ p q. grind (arith, nat_tests)) (λ p q. grind (arith, nat_tests)) bits size

pub carry_with_is : (bits x y : ℕ) (c : Bool) → IsSize bits → x < 2 ^ bits → y < 2 ^ bits
    → (nat_lt (sum_of bits x y c) x || (nat_eq (sum_of bits x y c) x && not (nat_eq (bit_of c) 0))) ≡ carries bits x y c
carry_with_is bits x y true size =
    by_size (λ n. x < 2 ^ n → y < 2 ^ n → (nat_lt (sum_of n x y true) x || (nat_eq (sum_of n x y true) x && true)) ≡ carries n x y true)
    (λ p q. grind (arith, nat_tests)) (λ p q. grind (arith, nat_tests)) (λ p q. grind (arith, nat_tests)) bits size
carry_with_is bits x y false size =
    by_size (λ n. x < 2 ^ n → y < 2 ^ n → (nat_lt (sum_of n x y false) x || (nat_eq (sum_of n x y false) x && false)) ≡ carries n x y false)
    (λ p q. grind (arith, nat_tests)) (λ p q. grind (arith, nat_tests)) (λ p q. grind (arith, nat_tests)) bits size

pub borrow_with_is : (bits x y : ℕ) (c : Bool) → IsSize bits → x < 2 ^ bits → y < 2 ^ bits
    → (nat_lt x y || (nat_eq x y && not (nat_eq (bit_of c) 0))) ≡ borrows bits x y c
borrow_with_is bits x y true size =
    by_size (λ n. x < 2 ^ n → y < 2 ^ n → (nat_lt x y || (nat_eq x y && true)) ≡ borrows n x y true)
    (λ p q. grind (arith, nat_tests)) (λ p q. grind (arith, nat_tests)) (λ p q. grind (arith, nat_tests)) bits size
borrow_with_is bits x y false size =
    by_size (λ n. x < 2 ^ n → y < 2 ^ n → (nat_lt x y || (nat_eq x y && false)) ≡ borrows n x y false)
    (λ p q. grind (arith, nat_tests)) (λ p q. grind (arith, nat_tests)) (λ p q. grind (arith, nat_tests)) bits size
