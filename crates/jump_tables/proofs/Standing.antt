-- A window stands where one is found, and no other one does.
use Rattle.std.proofs.Common.{◌≡◌, ℕ, zero, suc, ◌+◌, ◌*◌, ◌%◌, ◌^◌, ◌<◌, ◌≤◌, inl, inr, Bool, true, ◌&&◌, nat_lt, if◌then◌else◌, List, Option, Some, None, option_map, option_and_then, is_some, refl, sym, ap, subst, arith}
use Rattle.std.proofs.lemmas.Bool.{and_parts, and_from, ltb-true, lt-ltb, cases_lt}
use Rattle.elf_image.specs.declared.image.Segment.{Segment}
use Rattle.elf_image.specs.declared.range.Range.{Range}
use Rattle.elf_image.specs.Image.{frozen_byte}
use Rattle.dream_words.specs.Words.{low_part}
use Rattle.x86_inst.specs.declared.AluOp.TheVariants.{Cmp}
use Rattle.x86_inst.specs.declared.Cond.{Cond}
use Rattle.x86_inst.specs.declared.Operand.TheVariants as o
use Rattle.x86_inst.specs.declared.Inst.{Inst}
use Rattle.x86_inst.specs.declared.Inst.TheVariants as i
use Rattle.x86_model.specs.Operands.{bits_of}
use Rattle.machine.specs.Code.{BeginsAt}
use Rattle.jump_tables.specs.Forms.{Index, at_first}
use Rattle.jump_tables.specs.Window.{Split, split, next_of, split_of, is_place, IsWindow, IsWindowAt}
use Rattle.jump_tables.specs.Found.{found, comparison_of, branch_of, comparison_at, split_by, split_at, jump_from, all_frozen, window_by, window_from, window_found}
use Rattle.jump_tables.specs.Laws.{OneWindow}
use Rattle.jump_tables.specs.declared.table.TableWindow.{TableWindow}
use Rattle.jump_tables.specs.declared.windows.Comparison.{Comparison}
use Rattle.jump_tables.proofs.Finding.{then_some, map_some, if_some, begins_found, found_begins, Leads, jump_leads, path_found}

-- ---- the table

frozen_more : (m : List Segment) (t n : ℕ) (f : Option ℕ) → frozen_byte m ((t + n) % 2 ^ 32) ≡ f → is_some f ≡ true → (b : ℕ) × (frozen_byte m ((t + n) % 2 ^ 32) ≡ Some b)
frozen_more m t n None e h = absurd (let z : ⊥ = cc in z)
frozen_more m t n (Some b) e h = (b, e)

pub all_are : (m : List Segment) (t n k : ℕ) → all_frozen m t n ≡ true → k < n → (b : ℕ) × (frozen_byte m ((t + k) % 2 ^ 32) ≡ Some b)
all_are m t zero k h lt = absurd (omega (arith, lt))
all_are m t (suc n) k h lt =
    let p = and_parts (all_frozen m t n) (is_some (frozen_byte m ((t + n) % 2 ^ 32))) h in
    elim (cases_lt k n) [
      | inl less ↦ all_are m t n k p.0 less
      | inr le ↦ (let e : n ≡ k = omega (arith, lt, le) in subst (λ j. (b : ℕ) × (frozen_byte m ((t + j) % 2 ^ 32) ≡ Some b)) e (frozen_more m t n (frozen_byte m ((t + n) % 2 ^ 32)) refl p.1))
    ]

pub are_all : (m : List Segment) (t n : ℕ) → ((k : ℕ) → k < n → (b : ℕ) × (frozen_byte m ((t + k) % 2 ^ 32) ≡ Some b)) → all_frozen m t n ≡ true
are_all m t zero h = refl
are_all m t (suc n) h =
    let last = h n (omega arith) in
    and_from (all_frozen m t n) (is_some (frozen_byte m ((t + n) % 2 ^ 32))) (are_all m t n (λ k lt. h k (omega (arith, lt)))) (ap is_some last.1)

-- ---- a window that stands is found

comparison_found : (m : List Segment) (r : Range) (a : ℕ) (x : Index) (bound n : ℕ) → BeginsAt m r a (i.Alu Cmp x.size x.operand (o.Imm bound)) n → is_place x.operand ≡ true
    → comparison_at m r a ≡ Some (record { index = x; bound = bound; next = next_of a n })
unfolding comparison_at
comparison_found m r a x bound n b p =
    rw (begins_found m r a (i.Alu Cmp x.size x.operand (o.Imm bound)) n b)
    (ap (λ (t : Bool). option_map (λ (c : Index × ℕ). record { index = c.0; bound = c.1; next = next_of a n }) (if t then Some (x, bound) else None)) p)

split_found : (m : List Segment) (r : Range) (c : Comparison) (condition : Cond) (distance n : ℕ) (s : Split) → BeginsAt m r c.next (i.Jcc condition distance) n
    → split_by c (next_of c.next n) (condition.0, distance) ≡ Some s → split_at m r c ≡ Some s
unfolding split_at
split_found m r c condition distance n s b e = rw (begins_found m r c.next (i.Jcc condition distance) n b) e

table_found : (m : List Segment) (w : TableWindow) → 1 ≤ w.count → w.count ≤ 1024 → all_frozen m w.table (4 * w.count) ≡ true
    → window_by m (split w.default w.path w.count) (w.jump, w.table) ≡ Some w
table_found m w some most h =
    ap (λ (t : Bool). if t then Some w else None)
    (and_from (nat_lt 0 w.count) (nat_lt w.count 1025 && all_frozen m w.table (4 * w.count)) (lt-ltb 0 w.count (omega (arith, some)))
    (and_from (nat_lt w.count 1025) (all_frozen m w.table (4 * w.count)) (lt-ltb w.count 1025 (omega (arith, most))) h))

pub window_is_found : (m : List Segment) (r : Range) (a : ℕ) (w : TableWindow) → IsWindow m r a w → window_found m r a ≡ Some w
unfolding window_found window_from
window_is_found m r a w h =
    let c : Comparison = record { index = h.index; bound = h.bound; next = next_of a h.compare_size } in
    let s : Split = split w.default w.path w.count in
    rw (comparison_found m r a h.index h.bound h.compare_size h.compares h.place)
    (rw (split_found m r c h.condition h.distance h.branch_size s h.branches h.splits)
    (rw (path_found m r h.index 5 (at_first h.index) w.path (w.jump, w.table) h.insts h.goal h.jump_size h.path (omega (arith, h.few)) h.jumps h.through)
    (table_found m w h.some h.most (are_all m w.table (4 * w.count) h.entries))))

pub one_window : OneWindow
one_window m r a w v h k =
    let e = window_is_found m r a w h in
    let f = window_is_found m r a v k in
    cc

-- ---- a window that is found stands

-- a comparison that begins at an address
record Compares (m : List Segment) (r : Range) (a : ℕ) (c : Comparison) : Type 0 where
  size : ℕ
  begins : BeginsAt m r a (i.Alu Cmp c.index.size c.index.operand (o.Imm c.bound)) size
  place : is_place c.index.operand ≡ true
  next : next_of a size ≡ c.next

comparison_is : (inst : Inst) (c : Index × ℕ) → comparison_of inst ≡ Some c → (inst ≡ i.Alu Cmp c.0.size c.0.operand (o.Imm c.1)) × (is_place c.0.operand ≡ true)
comparison_is (i.Alu Cmp size x (o.Imm k)) c e =
    let x' : Index = record { size = size; operand = x } in
    let p = if_some (is_place x) (x', k) c e in
    (ap (λ (d : Index × ℕ). i.Alu Cmp d.0.size d.0.operand (o.Imm d.1)) p.1, subst (λ (d : Index × ℕ). is_place d.0.operand ≡ true) p.1 p.0)
comparison_is _ c e = absurd (let z : ⊥ = cc in z)

compares : (m : List Segment) (r : Range) (a : ℕ) (c : Comparison) → comparison_at m r a ≡ Some c → Compares m r a c
unfolding comparison_at
compares m r a c e =
    let d = then_some (λ (d : Inst × ℕ). option_map (λ (k : Index × ℕ). record { index = k.0; bound = k.1; next = next_of a d.1 }) (comparison_of d.0)) (found m r a) c e in
    let k = map_some (λ (k : Index × ℕ). record { index = k.0; bound = k.1; next = next_of a d.0.1 }) (comparison_of d.0.0) c d.2 in
    let is = comparison_is d.0.0 k.0 k.1 in
    subst (Compares m r a) k.2 (record {
      size = d.0.1;
      begins = subst (λ (inst : Inst). BeginsAt m r a inst d.0.1) is.0 (found_begins m r a d.0 d.1);
      place = is.1;
      next = refl;
    })

-- a branch that begins after a comparison
record Branches (m : List Segment) (r : Range) (c : Comparison) (s : Split) : Type 0 where
  condition : Cond
  distance : ℕ
  size : ℕ
  begins : BeginsAt m r c.next (i.Jcc condition distance) size
  splits : split_by c (next_of c.next size) (condition.0, distance) ≡ Some s

branch_is : (inst : Inst) (b : ℕ × ℕ) → branch_of inst ≡ Some b → (c : Cond) × (inst ≡ i.Jcc c b.1) × (c.0 ≡ b.0)
branch_is (i.Jcc c distance) b e =
    let p : (c.0, distance) ≡ b = cc in
    (c, ap (λ (d : ℕ × ℕ). i.Jcc c d.1) p, ap (λ (d : ℕ × ℕ). d.0) p)
branch_is _ b e = absurd (let z : ⊥ = cc in z)

branches : (m : List Segment) (r : Range) (c : Comparison) (s : Split) → split_at m r c ≡ Some s → Branches m r c s
unfolding split_at
branches m r c s e =
    let d = then_some (λ (d : Inst × ℕ). option_and_then (split_by c (next_of c.next d.1)) (branch_of d.0)) (found m r c.next) s e in
    let b = then_some (split_by c (next_of c.next d.0.1)) (branch_of d.0.0) s d.2 in
    let is = branch_is d.0.0 b.0 b.1 in
    record {
      condition = is.0;
      distance = b.0.1;
      size = d.0.1;
      begins = subst (λ (inst : Inst). BeginsAt m r c.next inst d.0.1) is.1 (found_begins m r c.next d.0 d.1);
      splits = subst (λ k. split_by c (next_of c.next d.0.1) (k, b.0.1) ≡ Some s) (sym is.2) b.2;
    }

-- a table that is as it has to be
record Holds (m : List Segment) (s : Split) (j : ℕ × ℕ) (w : TableWindow) : Type 0 where
  some : 1 ≤ s.count
  most : s.count ≤ 1024
  frozen : all_frozen m j.1 (4 * s.count) ≡ true
  is : record { default = s.default; table = j.1; count = s.count; jump = j.0; path = s.path } ≡ w

holds : (m : List Segment) (s : Split) (j : ℕ × ℕ) (w : TableWindow) → window_by m s j ≡ Some w → Holds m s j w
holds m s j w e =
    let p = if_some (nat_lt 0 s.count && (nat_lt s.count 1025 && all_frozen m j.1 (4 * s.count))) (record { default = s.default; table = j.1; count = s.count; jump = j.0; path = s.path }) w e in
    let q = and_parts (nat_lt 0 s.count) (nat_lt s.count 1025 && all_frozen m j.1 (4 * s.count)) p.0 in
    let t = and_parts (nat_lt s.count 1025) (all_frozen m j.1 (4 * s.count)) q.1 in
    let low : 0 < s.count = ltb-true 0 s.count q.0 in
    let high : s.count < 1025 = ltb-true s.count 1025 t.0 in
    record { some = omega (arith, low); most = omega (arith, high); frozen = t.1; is = p.1 }

window_of : (m : List Segment) (r : Range) (a : ℕ) (w : TableWindow) (c : Comparison) (s : Split) (j : ℕ × ℕ) (k : Compares m r a c) → Branches m r c s
    → Leads m r c.index 5 (at_first c.index) s.path j → Holds m s j w → IsWindow m r a w
window_of m r a w c s j k b l h =
    subst (IsWindow m r a) h.is (record {
      index = c.index;
      bound = c.bound;
      compare_size = k.size;
      compares = k.begins;
      place = k.place;
      condition = b.condition;
      distance = b.distance;
      branch_size = b.size;
      branches = subst (λ n. BeginsAt m r n (i.Jcc b.condition b.distance) b.size) (sym k.next) b.begins;
      splits = subst (λ n. split_of b.condition.0 (low_part (bits_of c.index.size) c.bound) ((next_of n b.size + b.distance) % 2 ^ 32) (next_of n b.size) ≡ Some s) (sym k.next) b.splits;
      insts = l.insts;
      path = l.path;
      few = omega (arith, l.few);
      goal = l.goal;
      jump_size = l.jump_size;
      jumps = l.jumps;
      through = l.through;
      some = h.some;
      most = h.most;
      entries = λ n lt. all_are m j.1 (4 * s.count) n h.frozen lt;
    })

found_stands : (m : List Segment) (r : Range) (a : ℕ) (w : TableWindow) → window_found m r a ≡ Some w → IsWindow m r a w
unfolding window_found window_from
found_stands m r a w e =
    let c = then_some (window_from m r) (comparison_at m r a) w e in
    let s = then_some (λ (s : Split). option_and_then (window_by m s) (jump_from m r c.0.index 5 (at_first c.0.index) s.path)) (split_at m r c.0) w c.2 in
    let j = then_some (window_by m s.0) (jump_from m r c.0.index 5 (at_first c.0.index) s.0.path) w s.2 in
    window_of m r a w c.0 s.0 j.0 (compares m r a c.0 c.1) (branches m r c.0 s.0 s.1) (jump_leads m r c.0.index 5 (at_first c.0.index) s.0.path j.0 j.1) (holds m s.0 j.0 w j.2)

stands_by : (m : List Segment) (r : Range) (a : ℕ) (w : Option TableWindow) → window_found m r a ≡ w → IsWindowAt m r a w
stands_by m r a (Some w) e = found_stands m r a w e
stands_by m r a None e = record { none = λ w h. (let f = window_is_found m r a w h in let z : ⊥ = cc in z) }

-- what is found at an address is the window there
pub window_stands : (m : List Segment) (r : Range) (a : ℕ) (w : Option TableWindow) → w ≡ window_found m r a → IsWindowAt m r a w
window_stands m r a w e = stands_by m r a w (sym e)
