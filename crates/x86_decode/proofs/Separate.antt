-- At most one row of the table fits an opcode with its prefixes and ModRM byte: tests over the table, and
-- what they say of each row.
use Rattle.std.proofs.Common.{◌≡◌, ℕ, zero, suc, ◌+◌, ◌-◌, ◌*◌, ◌/◌, ◌%◌, ◌<◌, ◌≤◌, Bool, true, false, cond, ltb, nat_eq, List, [], ◌∷◌, Option, Some, None, refl, sym, ap, subst, ◌∙◌, arith, inl, inr, ◌⊎◌}
use Rattle.std.proofs.lemmas.Bool.{cases_lt, ltb-false, le-ltb, ltb-true, lt-ltb, eqb-true, eq-eqb, leb-true}
use Rattle.std.proofs.lemmas.Bool.Decides.{eqb_tells}
use Rattle.std.proofs.Math.Nat.{mod-eq-sub-mul-div, mul-div-le, mul-mod_right, mul-div_cancel_left}
use Rattle.std.specs.Prelude.{◌&&◌, ◌||◌, ◌==◌, nat_lt, is_some, slice_get}
use Rattle.std.specs.List.{find, list_any, list_all}
use Rattle.x86_inst.specs.Rows.{Prefixes, Row, Mode, AnyModRm, MemoryOnly, RegisterOnly, Digit, DigitFrom, ShiftDigit, Exactly, takes, Repeats, Never, F3Allowed, F2F3Allowed, F3Needed, allows_repeat}
use Rattle.x86_inst.specs.Table.{table}
use Rattle.x86_inst.specs.Spelling.{allows, allows_size, opcode, is_size, is_segment, is_repeat}
use Rattle.x86_decode.specs.View.{place, opens, same_bool}

-- ---- tests

pub and_true : (a b : Bool) → (a && b) ≡ true → (a ≡ true) × (b ≡ true)
and_true true b e = (refl, e)
and_true false b e = absurd cc

pub true_and : (a b : Bool) → a ≡ true → b ≡ true → (a && b) ≡ true
true_and true b e f = f
true_and false b e f = absurd cc

abbrev pub no : Bool → Bool
no true = false
no false = true

no_true : (b : Bool) → no b ≡ true → b ≡ true → ⊥
no_true true e f = cc
no_true false e f = cc

if_else : (a b : Bool) → (cond a b true) ≡ true → a ≡ true → b ≡ true
if_else true b e f = e
if_else false b e f = absurd cc

abbrev upto : ℕ → List ℕ
upto zero = []
upto (suc n) = n ∷ upto n

any_upto : (f : ℕ → Bool) (n m : ℕ) → m < n → f m ≡ true → list_any f (upto n) ≡ true
any_upto f zero m lt e = absurd (omega arith)
any_upto f (suc n) m lt e = elim (nat_cases m n lt) [ inl eq ↦ here (f n) (list_any f (upto n)) (subst (λ k. f k ≡ true) eq e) | inr less ↦ there (f n) (list_any f (upto n)) (any_upto f n m less e) ]
  where
    nat_cases : (m n : ℕ) → m < suc n → (m ≡ n) ⊎ (m < n)
    nat_cases m n lt = elim (cases_lt m n) [ inl less ↦ inr less | inr le ↦ inl (omega arith) ]

    here : (a b : Bool) → a ≡ true → (a || b) ≡ true
    here true b e = refl
    here false b e = absurd cc

    there : (a b : Bool) → b ≡ true → (a || b) ≡ true
    there true b e = refl
    there false b e = e

all_upto : (f : ℕ → Bool) (n m : ℕ) → m < n → list_all f (upto n) ≡ true → f m ≡ true
all_upto f zero m lt e = absurd (omega arith)
all_upto f (suc n) m lt e =
    let k = and_true (f n) (list_all f (upto n)) e in
    elim (cases_lt m n) [ inl less ↦ all_upto f n m less k.1 | inr le ↦ let eq : n ≡ m = omega arith in subst (λ j. f j ≡ true) eq k.0 ]

-- ---- the place of an opcode

pub record IsPlace (r : Row) (op low : ℕ) : Type 0 where
  pub within : low < r.count
  pub op_is : op ≡ opcode r low

tests_of : (a b c d : Bool) (q low : ℕ) → cond (a || b) None (cond (c && d) (Some q) None) ≡ Some low → (a ≡ false) × (b ≡ false) × (c ≡ true) × (d ≡ true) × (q ≡ low)
tests_of true b c d q low e = absurd cc
tests_of false true c d q low e = absurd cc
tests_of false false true true q low e = (refl, refl, refl, refl, cc)
tests_of false false true false q low e = absurd cc
tests_of false false false d q low e = absurd cc

op_from : (step first op : ℕ) → 0 < step → first ≤ op → (op - first) % step ≡ 0 → op ≡ first + step * ((op - first) / step)
op_from step first op pos le none =
    let whole : step * ((op - first) / step) ≡ op - first = omega (arith, mod-eq-sub-mul-div (op - first) step, mul-div-le (op - first) step) in
    omega arith

pub place_some : (r : Row) (op low : ℕ) → place r op ≡ Some low → IsPlace r op low
place_some r op low e =
    let t = tests_of (r.step == 0) (nat_lt op r.first) ((op - r.first) % r.step == 0) (nat_lt ((op - r.first) / r.step) r.count) ((op - r.first) / r.step) low e in
    let pos : 0 < r.step = eqb_false_pos r.step t.0 in
    let at : op ≡ opcode r ((op - r.first) / r.step) = op_from r.step r.first op pos (ltb-false op r.first t.1) (eqb-true _ _ t.2) in
    record { within = subst (λ (n : ℕ). n < r.count) t.4 (ltb-true _ _ t.3); op_is = at ∙ ap (opcode r) t.4 }
  where
    eqb_false_pos : (n : ℕ) → nat_eq n 0 ≡ false → 0 < n
    eqb_false_pos zero e = absurd cc
    eqb_false_pos (suc n) e = omega arith

pub place_is : (r : Row) (low : ℕ) → 0 < r.step → low < r.count → place r (opcode r low) ≡ Some low
place_is r low pos lt =
    let distance : r.first + r.step * low - r.first ≡ r.step * low = omega arith in
    let a : nat_eq r.step 0 ≡ false = pos_eqb r.step pos in
    let b : ltb (r.first + r.step * low) r.first ≡ false = le-ltb _ _ (omega arith) in
    let c : nat_eq ((r.first + r.step * low - r.first) % r.step) 0 ≡ true = rw distance (rw (mul-mod_right r.step low) refl) in
    let q : (r.first + r.step * low - r.first) / r.step ≡ low = rw distance (mul-div_cancel_left low pos) in
    let d : ltb ((r.first + r.step * low - r.first) / r.step) r.count ≡ true = rw q (lt-ltb low r.count lt) in
    rw (a, b, c, d) (ap (λ (n : ℕ). Some n) q)
  where
    pos_eqb : (n : ℕ) → 0 < n → nat_eq n 0 ≡ false
    pos_eqb n h = elim (eqb_tells n 0) [ inl t ↦ absurd (omega (arith, t.1)) | inr t ↦ t.0 ]

-- ---- an open row

pub record IsOpen (r : Row) (p : Prefixes) (escape : Bool) (op low : ℕ) : Type 0 where
  pub escape_is : r.escape ≡ escape
  pub place_of : place r op ≡ Some low
  pub allowed : allows r p ≡ true

same_true : (a b : Bool) → same_bool a b ≡ true → a ≡ b
same_true true true e = refl
same_true true false e = absurd cc
same_true false true e = absurd cc
same_true false false e = refl

same_self : (a : Bool) → same_bool a a ≡ true
same_self true = refl
same_self false = refl

is_some_of : (o : Option ℕ) → is_some o ≡ true → (n : ℕ) × (o ≡ Some n)
is_some_of None e = absurd cc
is_some_of (Some n) e = (n, refl)

pub open_of : (r : Row) (p : Prefixes) (escape : Bool) (op : ℕ) → opens p escape op r ≡ true → (low : ℕ) × IsOpen r p escape op low
open_of r p escape op e =
    let t = and_true (same_bool r.escape escape) (is_some (place r op) && allows r p) e in
    let u = and_true (is_some (place r op)) (allows r p) t.1 in
    let l = is_some_of (place r op) u.0 in
    (l.0, record { escape_is = same_true r.escape escape t.0; place_of = l.1; allowed = u.1 })

pub opens_of : (r : Row) (p : Prefixes) (escape : Bool) (op low : ℕ) → IsOpen r p escape op low → opens p escape op r ≡ true
opens_of r p escape op low o =
    true_and (same_bool r.escape escape) (is_some (place r op) && allows r p) (rw o.escape_is (same_self escape))
    (true_and (is_some (place r op)) (allows r p) (rw o.place_of refl) o.allowed)

-- ---- two rows

abbrev share_repeats : Repeats → Repeats → Bool
share_repeats Never F3Needed = false
share_repeats F3Needed Never = false
share_repeats k l = true

share_repeats_ok : (k l : Repeats) (o : Option ℕ) → allows_repeat k o ≡ true → allows_repeat l o ≡ true → share_repeats k l ≡ true
share_repeats_ok Never Never o f g = refl
share_repeats_ok Never F3Allowed o f g = refl
share_repeats_ok Never F2F3Allowed o f g = refl
share_repeats_ok Never F3Needed None f g = absurd cc
share_repeats_ok Never F3Needed (Some b) f g = absurd cc
share_repeats_ok F3Allowed Never o f g = refl
share_repeats_ok F3Allowed F3Allowed o f g = refl
share_repeats_ok F3Allowed F2F3Allowed o f g = refl
share_repeats_ok F3Allowed F3Needed o f g = refl
share_repeats_ok F2F3Allowed Never o f g = refl
share_repeats_ok F2F3Allowed F3Allowed o f g = refl
share_repeats_ok F2F3Allowed F2F3Allowed o f g = refl
share_repeats_ok F2F3Allowed F3Needed o f g = refl
share_repeats_ok F3Needed Never None f g = absurd cc
share_repeats_ok F3Needed Never (Some b) f g = absurd cc
share_repeats_ok F3Needed F3Allowed o f g = refl
share_repeats_ok F3Needed F2F3Allowed o f g = refl
share_repeats_ok F3Needed F3Needed o f g = refl

abbrev apart_modes : Mode → Mode → Bool
apart_modes (Exactly b) l = no (takes l b)
apart_modes k (Exactly c) = no (takes k c)
apart_modes (Digit d) (Digit e) = no (d == e)
apart_modes MemoryOnly RegisterOnly = true
apart_modes RegisterOnly MemoryOnly = true
apart_modes k l = false

apart_modes_ok : (k l : Mode) (m : ℕ) → apart_modes k l ≡ true → takes k m ≡ true → takes l m ≡ true → ⊥
apart_modes_ok AnyModRm AnyModRm m h f g = cc
apart_modes_ok AnyModRm MemoryOnly m h f g = cc
apart_modes_ok AnyModRm RegisterOnly m h f g = cc
apart_modes_ok AnyModRm (Digit e) m h f g = cc
apart_modes_ok AnyModRm (DigitFrom e) m h f g = cc
apart_modes_ok AnyModRm ShiftDigit m h f g = cc
apart_modes_ok AnyModRm (Exactly c) m h f g = no_true (takes AnyModRm c) h (subst (λ n. takes AnyModRm n ≡ true) (eqb-true m c g) f)
apart_modes_ok MemoryOnly AnyModRm m h f g = cc
apart_modes_ok MemoryOnly MemoryOnly m h f g = cc
apart_modes_ok MemoryOnly RegisterOnly m h f g = omega (arith, ltb-true m 192 f, leb-true 192 m g)
apart_modes_ok MemoryOnly (Digit e) m h f g = cc
apart_modes_ok MemoryOnly (DigitFrom e) m h f g = cc
apart_modes_ok MemoryOnly ShiftDigit m h f g = cc
apart_modes_ok MemoryOnly (Exactly c) m h f g = no_true (takes MemoryOnly c) h (subst (λ n. takes MemoryOnly n ≡ true) (eqb-true m c g) f)
apart_modes_ok RegisterOnly AnyModRm m h f g = cc
apart_modes_ok RegisterOnly MemoryOnly m h f g = omega (arith, ltb-true m 192 g, leb-true 192 m f)
apart_modes_ok RegisterOnly RegisterOnly m h f g = cc
apart_modes_ok RegisterOnly (Digit e) m h f g = cc
apart_modes_ok RegisterOnly (DigitFrom e) m h f g = cc
apart_modes_ok RegisterOnly ShiftDigit m h f g = cc
apart_modes_ok RegisterOnly (Exactly c) m h f g = no_true (takes RegisterOnly c) h (subst (λ n. takes RegisterOnly n ≡ true) (eqb-true m c g) f)
apart_modes_ok (Digit d) AnyModRm m h f g = cc
apart_modes_ok (Digit d) MemoryOnly m h f g = cc
apart_modes_ok (Digit d) RegisterOnly m h f g = cc
apart_modes_ok (Digit d) (Digit e) m h f g = no_true (d == e) h (eq-eqb d e (sym (eqb-true (m / 8 % 8) d f) ∙ eqb-true (m / 8 % 8) e g))
apart_modes_ok (Digit d) (DigitFrom e) m h f g = cc
apart_modes_ok (Digit d) ShiftDigit m h f g = cc
apart_modes_ok (Digit d) (Exactly c) m h f g = no_true (takes (Digit d) c) h (subst (λ n. takes (Digit d) n ≡ true) (eqb-true m c g) f)
apart_modes_ok (DigitFrom d) AnyModRm m h f g = cc
apart_modes_ok (DigitFrom d) MemoryOnly m h f g = cc
apart_modes_ok (DigitFrom d) RegisterOnly m h f g = cc
apart_modes_ok (DigitFrom d) (Digit e) m h f g = cc
apart_modes_ok (DigitFrom d) (DigitFrom e) m h f g = cc
apart_modes_ok (DigitFrom d) ShiftDigit m h f g = cc
apart_modes_ok (DigitFrom d) (Exactly c) m h f g = no_true (takes (DigitFrom d) c) h (subst (λ n. takes (DigitFrom d) n ≡ true) (eqb-true m c g) f)
apart_modes_ok ShiftDigit AnyModRm m h f g = cc
apart_modes_ok ShiftDigit MemoryOnly m h f g = cc
apart_modes_ok ShiftDigit RegisterOnly m h f g = cc
apart_modes_ok ShiftDigit (Digit e) m h f g = cc
apart_modes_ok ShiftDigit (DigitFrom e) m h f g = cc
apart_modes_ok ShiftDigit ShiftDigit m h f g = cc
apart_modes_ok ShiftDigit (Exactly c) m h f g = no_true (takes ShiftDigit c) h (subst (λ n. takes ShiftDigit n ≡ true) (eqb-true m c g) f)
apart_modes_ok (Exactly b) AnyModRm m h f g = no_true (takes AnyModRm b) h (subst (λ n. takes AnyModRm n ≡ true) (eqb-true m b f) g)
apart_modes_ok (Exactly b) MemoryOnly m h f g = no_true (takes MemoryOnly b) h (subst (λ n. takes MemoryOnly n ≡ true) (eqb-true m b f) g)
apart_modes_ok (Exactly b) RegisterOnly m h f g = no_true (takes RegisterOnly b) h (subst (λ n. takes RegisterOnly n ≡ true) (eqb-true m b f) g)
apart_modes_ok (Exactly b) (Digit e) m h f g = no_true (takes (Digit e) b) h (subst (λ n. takes (Digit e) n ≡ true) (eqb-true m b f) g)
apart_modes_ok (Exactly b) (DigitFrom e) m h f g = no_true (takes (DigitFrom e) b) h (subst (λ n. takes (DigitFrom e) n ≡ true) (eqb-true m b f) g)
apart_modes_ok (Exactly b) ShiftDigit m h f g = no_true (takes ShiftDigit b) h (subst (λ n. takes ShiftDigit n ≡ true) (eqb-true m b f) g)
apart_modes_ok (Exactly b) (Exactly c) m h f g = no_true (takes (Exactly c) b) h (subst (λ n. takes (Exactly c) n ≡ true) (eqb-true m b f) g)

abbrev apart_modrm : Option Mode → Option Mode → Bool
apart_modrm None l = false
apart_modrm (Some k) None = false
apart_modrm (Some k) (Some l) = apart_modes k l

abbrev share_opcode : Row → Row → Bool
share_opcode r s = list_any (λ low. is_some (place s (opcode r low))) (upto r.count)

-- no opcode, prefixes and ModRM byte fit both rows, and both have ModRM where some opcode with prefixes opens both
abbrev apart : Row → Row → Bool
apart r s =
    elim (same_bool r.escape s.escape) [
      | false ↦ true
      | true ↦ elim (share_opcode r s) [
        | false ↦ true
        | true ↦ elim (share_repeats r.repeats s.repeats) [ false ↦ true | true ↦ apart_modrm r.modrm s.modrm ]
      ]
    ]

all_true : (a b c d : Bool) → elim a [ false ↦ true | true ↦ elim b [ false ↦ true | true ↦ elim c [ false ↦ true | true ↦ d ] ] ] ≡ true → a ≡ true → b ≡ true → c ≡ true → d ≡ true
all_true true true true d e f g h = e
all_true true true false d e f g h = absurd cc
all_true true false c d e f g h = absurd cc
all_true false b c d e f g h = absurd cc

pub record BothModRm (r s : Row) : Type 0 where
  pub k : Mode
  pub l : Mode
  pub k_is : r.modrm ≡ Some k
  pub l_is : s.modrm ≡ Some l
  pub apart : (m : ℕ) → takes k m ≡ true → takes l m ≡ true → ⊥

both_of : (r s : Row) (k l : Option Mode) → r.modrm ≡ k → s.modrm ≡ l → apart_modrm k l ≡ true → BothModRm r s
both_of r s None l e f h = absurd cc
both_of r s (Some k) None e f h = absurd cc
both_of r s (Some k) (Some l) e f h = record { k = k; l = l; k_is = e; l_is = f; apart = λ m. apart_modes_ok k l m h }

apart_ok : (r s : Row) (p : Prefixes) (escape : Bool) (op low low' : ℕ) → apart r s ≡ true → IsOpen r p escape op low → IsOpen s p escape op low' → BothModRm r s
apart_ok r s p escape op low low' h o q =
    let place' = place_some r op low o.place_of in
    let same : same_bool r.escape s.escape ≡ true = rw (o.escape_is ∙ sym q.escape_is) (same_self s.escape) in
    let shared : is_some (place s (opcode r low)) ≡ true = rw (← place'.op_is, q.place_of) refl in
    let some = any_upto (λ n. is_some (place s (opcode r n))) r.count low place'.within shared in
    let a = and_true (allows_size r.sized p.size) (allows_repeat r.repeats p.repeat) o.allowed in
    let b = and_true (allows_size s.sized p.size) (allows_repeat s.repeats p.repeat) q.allowed in
    both_of r s r.modrm s.modrm refl refl
    (all_true (same_bool r.escape s.escape) (share_opcode r s) (share_repeats r.repeats s.repeats) (apart_modrm r.modrm s.modrm) h same some
    (share_repeats_ok r.repeats s.repeats p.repeat a.1 b.1))

-- ---- the table

abbrev separate : List Row → Bool
separate [] = true
separate (r ∷ rs) = list_all (apart r) rs && separate rs

separated : separate table ≡ true
unfolding table
separated = refl

abbrev pub good_opcode : Bool → ℕ → Bool
good_opcode true op = nat_lt op 256
good_opcode false op = nat_lt op 256 && (no (op == 0x0F) && (no (is_size op) && (no (is_segment op) && no (is_repeat op))))

-- a ModRM byte that is taken
abbrev pub sample : Mode → ℕ
sample AnyModRm = 0
sample MemoryOnly = 0
sample RegisterOnly = 192
sample (Digit d) = 192 + 8 * d
sample (DigitFrom d) = 192 + 8 * d
sample ShiftDigit = 192
sample (Exactly b) = b

abbrev good_mode : Option Mode → Bool
good_mode None = true
good_mode (Some k) = takes k (sample k) && nat_lt (sample k) 256

-- opcodes are bytes, and behind no 0F neither 0F nor a prefix; some ModRM byte is taken
abbrev good : Row → Bool
good r = nat_lt 0 r.step && (nat_lt 0 r.count && (list_all (λ low. good_opcode r.escape (opcode r low)) (upto r.count) && good_mode r.modrm))

all_good : list_all good table ≡ true
unfolding table
all_good = refl

-- ---- finding

pub find_some : (f : Row → Bool) (rs : List Row) (r : Row) → find f rs ≡ Some r → (f r ≡ true) × (i : ℕ) × (slice_get rs i ≡ Some r)
find_some f [] r e = absurd cc
find_some f (s ∷ rs) r e = at (f s) refl (find_some f rs r) e
  where
    at : (b : Bool) → f s ≡ b → (find f rs ≡ Some r → (f r ≡ true) × (i : ℕ) × (slice_get rs i ≡ Some r)) → cond b (Some s) (find f rs) ≡ Some r → (f r ≡ true) × (i : ℕ) × (slice_get (s ∷ rs) i ≡ Some r)
    at true t rest e = let k : s ≡ r = cc in (subst (λ x. f x ≡ true) k t, 0, ap (λ (x : Row). Some x) k)
    at false t rest e = let g = rest e in (g.0, suc g.1, g.2)

pub find_none : (f : Row → Bool) (rs : List Row) (i : ℕ) (r : Row) → find f rs ≡ None → slice_get rs i ≡ Some r → f r ≡ true → ⊥
find_none f [] i r e g t = cc
find_none f (s ∷ rs) zero r e g t = at (f s) refl e
  where
    at : (b : Bool) → f s ≡ b → cond b (Some s) (find f rs) ≡ None → ⊥
    at true u e = cc
    at false u e = let k : s ≡ r = cc in let v : f s ≡ true = subst (λ x. f x ≡ true) (sym k) t in cc
find_none f (s ∷ rs) (suc i) r e g t = at (f s) (λ k. find_none f rs i r k g t) e
  where
    at : (b : Bool) → (find f rs ≡ None → ⊥) → cond b (Some s) (find f rs) ≡ None → ⊥
    at true rest e = cc
    at false rest e = rest e

list_all_get : (f : Row → Bool) (rs : List Row) (i : ℕ) (r : Row) → list_all f rs ≡ true → slice_get rs i ≡ Some r → f r ≡ true
list_all_get f [] i r e g = absurd cc
list_all_get f (s ∷ rs) zero r e g = let k : s ≡ r = cc in subst (λ x. f x ≡ true) k (and_true (f s) (list_all f rs) e).0
list_all_get f (s ∷ rs) (suc i) r e g = list_all_get f rs i r (and_true (f s) (list_all f rs) e).1 g

separate_get : (rs : List Row) (i j : ℕ) (r s : Row) → separate rs ≡ true → i < j → slice_get rs i ≡ Some r → slice_get rs j ≡ Some s → apart r s ≡ true
separate_get [] i j r s e lt g h = absurd cc
separate_get (x ∷ rs) i zero r s e lt g h = absurd (omega arith)
separate_get (x ∷ rs) zero (suc j) r s e lt g h =
    let k : x ≡ r = cc in
    subst (λ y. apart y s ≡ true) k (list_all_get (apart x) rs j s (and_true (list_all (apart x) rs) (separate rs) e).0 h)
separate_get (x ∷ rs) (suc i) (suc j) r s e lt g h = separate_get rs i j r s (and_true (list_all (apart x) rs) (separate rs) e).1 (omega arith) g h

-- what two rows of the table that are open at once have
pub data Same_or_apart (r s : Row) : Type 0 where
  same : r ≡ s → Same_or_apart r s
  distinct : BothModRm r s → Same_or_apart r s

swap_both : (r s : Row) → BothModRm r s → BothModRm s r
swap_both r s b = record { k = b.l; l = b.k; k_is = b.l_is; l_is = b.k_is; apart = λ m f g. b.apart m g f }

pub two_rows : (i j : ℕ) (r s : Row) (p : Prefixes) (escape : Bool) (op low low' : ℕ) → slice_get table i ≡ Some r → slice_get table j ≡ Some s → IsOpen r p escape op low → IsOpen s p escape op low' → Same_or_apart r s
two_rows i j r s p escape op low low' g h o q =
    elim (cases_lt i j) [
      | inl lt ↦ distinct (apart_ok r s p escape op low low' (separate_get table i j r s separated lt g h) o q)
      | inr le ↦ elim (cases_lt j i) [
        | inl lt ↦ distinct (swap_both s r (apart_ok s r p escape op low' low (separate_get table j i s r separated lt h g) q o))
        | inr le' ↦
            let k : i ≡ j = omega arith in
            let g' : slice_get table j ≡ Some r = subst (λ n. slice_get table n ≡ Some r) k g in
            let e : Some r ≡ Some s = sym g' ∙ h in
            same (cc)
      ]
    ]

pub record IsGood (r : Row) : Type 0 where
  pub step : 0 < r.step
  pub count : 0 < r.count
  pub opcodes : (low : ℕ) → low < r.count → good_opcode r.escape (opcode r low) ≡ true
  pub mode : good_mode r.modrm ≡ true

pub good_row : (i : ℕ) (r : Row) → slice_get table i ≡ Some r → IsGood r
good_row i r g =
    let a = and_true (nat_lt 0 r.step) (nat_lt 0 r.count && (list_all (λ low. good_opcode r.escape (opcode r low)) (upto r.count) && good_mode r.modrm)) (list_all_get good table i r all_good g) in
    let b = and_true (nat_lt 0 r.count) (list_all (λ low. good_opcode r.escape (opcode r low)) (upto r.count) && good_mode r.modrm) a.1 in
    let c = and_true (list_all (λ low. good_opcode r.escape (opcode r low)) (upto r.count)) (good_mode r.modrm) b.1 in
    record {
      step = ltb-true _ _ a.0;
      count = ltb-true _ _ b.0;
      opcodes = λ low lt. all_upto (λ n. good_opcode r.escape (opcode r n)) r.count low lt c.0;
      mode = c.1;
    }
