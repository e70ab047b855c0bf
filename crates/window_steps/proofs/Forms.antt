-- Sums, products and equal operands, as forms say them.
use Rattle.std.proofs.Common.{◌≡◌, ℕ, ◌+◌, ◌*◌, ◌%◌, ◌^◌, ◌<◌, Bool, true, false, nat_eq, Option, Some, None, refl, sym, ap, ◌∙◌, subst, arith}
use Rattle.std.specs.Prelude.{◌&&◌, if◌then◌else◌}
use Rattle.std.proofs.Math.Nat.{add-mul, mul_comm, mul_assoc}
use Rattle.std.proofs.lemmas.Bool.{and_parts, eqb-true}
use Rattle.std.proofs.lemmas.Nat.{mul-mod_first}
use Rattle.dream_words.specs.Memory.{Mem}
use Rattle.x86_inst.specs.declared.Size.{Size}
use Rattle.x86_inst.specs.declared.Size.TheVariants.{B, H, W}
use Rattle.x86_inst.specs.declared.Seg.{Seg}
use Rattle.x86_inst.specs.declared.Seg.TheVariants as seg
use Rattle.x86_inst.specs.declared.Mem.{Mem as Address}
use Rattle.x86_inst.specs.declared.Operand.{Operand}
use Rattle.x86_inst.specs.declared.Operand.TheVariants as o
use Rattle.jump_tables.specs.Forms.{both, plus, same_memory, same_operand, same_register, same_seg, same_size, table_at, times}
use Rattle.jump_tables.specs.declared.forms.Form.{Form}
use Rattle.jump_tables.specs.declared.forms.Form.TheVariants as form
use Rattle.window_steps.specs.Knowledge.{Says}

-- ---- numbers modulo 2^32

plus_by : (p c v k : ℕ) → v % 2 ^ 32 ≡ (p + c) % 2 ^ 32 → (v + k) % 2 ^ 32 ≡ (p + (c + k) % 2 ^ 32) % 2 ^ 32
plus_by p c v k h = omega (arith, h)

both_by : (p q r c d u v : ℕ) → r % 2 ^ 32 ≡ (p + q) % 2 ^ 32 → v % 2 ^ 32 ≡ (p + c) % 2 ^ 32 → u % 2 ^ 32 ≡ (q + d) % 2 ^ 32
    → (v + u) % 2 ^ 32 ≡ (r + (c + d) % 2 ^ 32) % 2 ^ 32
both_by p q r c d u v h k l = omega (arith, h, k, l)

times_by : (r x z : ℕ) → r % 2 ^ 32 ≡ x % 2 ^ 32 → (x + z) % 2 ^ 32 ≡ (r + z % 2 ^ 32) % 2 ^ 32
times_by r x z h = omega (arith, h)

scaled_sum : (a b i : ℕ) → ((a + b) % 2 ^ 32 * i) % 2 ^ 32 ≡ (a * i + b * i) % 2 ^ 32
scaled_sum a b i = mul-mod_first (a + b) i (2 ^ 32) ∙ ap (λ n. n % 2 ^ 32) (add-mul a b i)

turned : (a n i : ℕ) → a * n * i ≡ a * i * n
turned a n i = mul_assoc a n i ∙ ap (λ k. a * k) (mul_comm n i) ∙ sym (mul_assoc a i n)

scaled_product : (a c i n v : ℕ) → v % 2 ^ 32 ≡ (a * i + c) % 2 ^ 32 → (v * n) % 2 ^ 32 ≡ (a * n % 2 ^ 32 * i + c * n % 2 ^ 32) % 2 ^ 32
scaled_product a c i n v h =
    sym (mul-mod_first v n (2 ^ 32)) ∙ ap (λ k. k * n % 2 ^ 32) h ∙ mul-mod_first (a * i + c) n (2 ^ 32) ∙ ap (λ k. k % 2 ^ 32) (add-mul (a * i) c n)
    ∙ times_by (a * n % 2 ^ 32 * i) (a * i * n) (c * n) (mul-mod_first (a * n) i (2 ^ 32) ∙ ap (λ k. k % 2 ^ 32) (turned a n i))

-- ---- what forms say

module _ (mem : Mem) (i : ℕ) where
  pub plus_says : (f : Form) (v k : ℕ) → Says mem i f v → Says mem i (plus k f) (v + k)
  plus_says (form.Scaled a c) v k h = plus_by (a * i) c v k h
  plus_says (form.Entry t) v k h = tt
  plus_says form.Unknown v k h = tt

  pub times_says : (f : Form) (v n : ℕ) → Says mem i f v → Says mem i (times n f) (v * n)
  times_says (form.Scaled a c) v n h = scaled_product a c i n v h
  times_says (form.Entry t) v n h = tt
  times_says form.Unknown v n h = tt

  pub both_says : (f g : Form) (v u : ℕ) → Says mem i f v → Says mem i g u → Says mem i (both f g) (v + u)
  both_says (form.Scaled a c) (form.Scaled b d) v u h k = both_by (a * i) (b * i) ((a + b) % 2 ^ 32 * i) c d u v (scaled_sum a b i) h k
  both_says (form.Scaled a c) (form.Entry t) v u h k = tt
  both_says (form.Scaled a c) form.Unknown v u h k = tt
  both_says (form.Entry t) (form.Scaled b d) v u h k = tt
  both_says (form.Entry t) (form.Entry d) v u h k = tt
  both_says (form.Entry t) form.Unknown v u h k = tt
  both_says form.Unknown (form.Scaled b d) v u h k = tt
  both_says form.Unknown (form.Entry t) v u h k = tt
  both_says form.Unknown form.Unknown v u h k = tt

  -- a sum or a product says of a word what it says of the word modulo 2^32
  pub plus_same : (f : Form) (k v u : ℕ) → u % 2 ^ 32 ≡ v % 2 ^ 32 → Says mem i (plus k f) v → Says mem i (plus k f) u
  plus_same (form.Scaled a c) k v u e h = e ∙ h
  plus_same (form.Entry t) k v u e h = tt
  plus_same form.Unknown k v u e h = tt

  pub times_same : (f : Form) (n v u : ℕ) → u % 2 ^ 32 ≡ v % 2 ^ 32 → Says mem i (times n f) v → Says mem i (times n f) u
  times_same (form.Scaled a c) n v u e h = e ∙ h
  times_same (form.Entry t) n v u e h = tt
  times_same form.Unknown n v u e h = tt

  -- an address that leads through a table is four times the index from it
  four_times : (b : Bool) (a c t v : ℕ) → b ≡ nat_eq a 4 → (if b then Some c else None) ≡ Some t → v < 2 ^ 32 → v % 2 ^ 32 ≡ (a * i + c) % 2 ^ 32 → v ≡ (t + 4 * i) % 2 ^ 32
  four_times true a c t v b e l h =
      let four : a ≡ 4 = eqb-true a 4 (sym b) in
      let same : c ≡ t = cc in
      let g : v % 2 ^ 32 ≡ (4 * i + c) % 2 ^ 32 = subst (λ n. v % 2 ^ 32 ≡ (n * i + c) % 2 ^ 32) four h in
      omega (arith, g, same, l)
  four_times false a c t v b e l h = absurd (let z : ⊥ = cc in z)

  pub table_says : (f : Form) (t v : ℕ) → table_at f ≡ Some t → v < 2 ^ 32 → Says mem i f v → v ≡ (t + 4 * i) % 2 ^ 32
  table_says (form.Scaled a c) t v e l h = four_times (nat_eq a 4) a c t v refl e l h
  table_says (form.Entry t') t v e l h = absurd (let z : ⊥ = cc in z)
  table_says form.Unknown t v e l h = absurd (let z : ⊥ = cc in z)

-- ---- equal operands

size_is : (p q : Size) → same_size p q ≡ true → p ≡ q
size_is B B h = refl
size_is B H h = absurd (let z : ⊥ = cc in z)
size_is B W h = absurd (let z : ⊥ = cc in z)
size_is H B h = absurd (let z : ⊥ = cc in z)
size_is H H h = refl
size_is H W h = absurd (let z : ⊥ = cc in z)
size_is W B h = absurd (let z : ⊥ = cc in z)
size_is W H h = absurd (let z : ⊥ = cc in z)
size_is W W h = refl

seg_is : (p q : Seg) → same_seg p q ≡ true → p ≡ q
seg_is seg.None seg.None h = refl
seg_is seg.None seg.Fs h = absurd (let z : ⊥ = cc in z)
seg_is seg.None seg.Gs h = absurd (let z : ⊥ = cc in z)
seg_is seg.Fs seg.None h = absurd (let z : ⊥ = cc in z)
seg_is seg.Fs seg.Fs h = refl
seg_is seg.Fs seg.Gs h = absurd (let z : ⊥ = cc in z)
seg_is seg.Gs seg.None h = absurd (let z : ⊥ = cc in z)
seg_is seg.Gs seg.Fs h = absurd (let z : ⊥ = cc in z)
seg_is seg.Gs seg.Gs h = refl

register_is : (p q : Option ℕ) → same_register p q ≡ true → p ≡ q
register_is None None h = refl
register_is None (Some b) h = absurd (let z : ⊥ = cc in z)
register_is (Some a) None h = absurd (let z : ⊥ = cc in z)
register_is (Some a) (Some b) h = ap (λ n. Some n) (eqb-true a b h)

memory_is : (m n : Address) → same_memory m n ≡ true → m ≡ n
memory_is m n h =
    let a = and_parts (same_register m.base n.base) (same_register m.index n.index && (nat_eq m.scale n.scale && (nat_eq m.disp n.disp && same_seg m.seg n.seg))) h in
    let b = and_parts (same_register m.index n.index) (nat_eq m.scale n.scale && (nat_eq m.disp n.disp && same_seg m.seg n.seg)) a.1 in
    let c = and_parts (nat_eq m.scale n.scale) (nat_eq m.disp n.disp && same_seg m.seg n.seg) b.1 in
    let d = and_parts (nat_eq m.disp n.disp) (same_seg m.seg n.seg) c.1 in
    same_parts m n (register_is m.base n.base a.0) (register_is m.index n.index b.0) (eqb-true m.scale n.scale c.0) (eqb-true m.disp n.disp d.0) (seg_is m.seg n.seg d.1)
  where
    same_parts : (m n : Address) → m.base ≡ n.base → m.index ≡ n.index → m.scale ≡ n.scale → m.disp ≡ n.disp → m.seg ≡ n.seg → m ≡ n
    same_parts m n a b c d e = (λ t. record { base = a t; index = b t; scale = c t; disp = d t; seg = e t })

operand_is : (p q : Operand) → same_operand p q ≡ true → p ≡ q
operand_is (o.Reg a) (o.Reg b) h = ap (λ n. o.Reg n) (eqb-true a b h)
operand_is (o.Reg a) (o.Mem m) h = absurd (let z : ⊥ = cc in z)
operand_is (o.Reg a) (o.Imm k) h = absurd (let z : ⊥ = cc in z)
operand_is (o.Mem m) (o.Reg b) h = absurd (let z : ⊥ = cc in z)
operand_is (o.Mem m) (o.Mem n) h = ap (λ n. o.Mem n) (memory_is m n h)
operand_is (o.Mem m) (o.Imm k) h = absurd (let z : ⊥ = cc in z)
operand_is (o.Imm j) (o.Reg b) h = absurd (let z : ⊥ = cc in z)
operand_is (o.Imm j) (o.Mem m) h = absurd (let z : ⊥ = cc in z)
operand_is (o.Imm j) (o.Imm k) h = ap (λ n. o.Imm n) (eqb-true j k h)

-- operands that are tested to be equal are
pub same_is : (p q : Size) (d s : Operand) → (same_size p q && same_operand d s) ≡ true → (p ≡ q) × (d ≡ s)
same_is p q d s h = let a = and_parts (same_size p q) (same_operand d s) h in (size_is p q a.0, operand_is d s a.1)
