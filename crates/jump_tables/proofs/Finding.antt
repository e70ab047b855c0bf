-- What is found is what the definitions say.
use Rattle.std.proofs.Common.{◌≡◌, ℕ, zero, suc, ◌+◌, ◌-◌, ◌≤◌, Bool, true, false, nat_lt, if◌then◌else◌, List, [], ◌∷◌, length, take, drop, Option, Some, None, option_map, option_and_then, Ok, Err, refl, sym, ap, ◌∙◌, subst, arith, length-append, length-drop}
use Rattle.std.specs.List.{list_all}
use Rattle.std.proofs.lemmas.Bool.{and_parts, and_from, ltb-true, lt-ltb}
use Rattle.std.proofs.lemmas.List.{take_at, take-append-drop}
use Rattle.elf_image.specs.declared.image.Segment.{Segment}
use Rattle.elf_image.specs.declared.range.Range.{Range}
use Rattle.elf_image.specs.Range.{bytes_to_end}
use Rattle.x86_inst.specs.declared.Operand.{Operand}
use Rattle.x86_inst.specs.declared.Inst.{Inst}
use Rattle.x86_inst.specs.declared.Inst.TheVariants as i
use Rattle.x86_inst.specs.Spelling.{AreBytes, Spells}
use Rattle.x86_decode.specs.Reading.{Read, read_at}
use Rattle.x86_decode.proofs.Prefixed.{reads_all}
use Rattle.x86_decode.proofs.Decoding.{again}
use Rattle.machine.specs.Code.{BeginsAt}
use Rattle.jump_tables.specs.Forms.{Index, Known, is_on_path, after, after_all, table_of}
use Rattle.jump_tables.specs.Window.{next_of, IsPath, IsInstAt}
use Rattle.jump_tables.specs.Found.{as_found, found, goal_of, unless_jump, jump_from}

-- ---- steps that may fail

pub then_some : {A B : Type 0} (f : A → Option B) (x : Option A) (b : B) → option_and_then f x ≡ Some b → (a : A) × (x ≡ Some a) × (f a ≡ Some b)
then_some f None b e = absurd (let z : ⊥ = cc in z)
then_some f (Some a) b e = (a, refl, e)

pub map_some : {A B : Type 0} (f : A → B) (x : Option A) (b : B) → option_map f x ≡ Some b → (a : A) × (x ≡ Some a) × (f a ≡ b)
map_some f None b e = absurd (let z : ⊥ = cc in z)
map_some f (Some a) b e = (let k : f a ≡ b = cc in (a, refl, k))

pub if_some : {B : Type 0} (t : Bool) (x : B) (b : B) → (if t then Some x else None) ≡ Some b → (t ≡ true) × (x ≡ b)
if_some false x b e = absurd (let z : ⊥ = cc in z)
if_some true x b e = (let k : x ≡ b = cc in (refl, k))

-- ---- the instruction at an address

are_bytes : (x : List ℕ) → AreBytes x → list_all (λ b. nat_lt b 256) x ≡ true
are_bytes [] h = refl
are_bytes (b ∷ x) h = and_from (nat_lt b 256) (list_all (λ c. nat_lt c 256) x) (lt-ltb b 256 h.0) (are_bytes x h.1)

bytes_are : (x : List ℕ) → list_all (λ b. nat_lt b 256) x ≡ true → AreBytes x
bytes_are [] h = tt
bytes_are (b ∷ x) h = let p = and_parts (nat_lt b 256) (list_all (λ c. nat_lt c 256) x) h in (ltb-true b 256 p.0, bytes_are x p.1)

-- the front of some bytes that is spelled
record Fronts (x : List ℕ) (d : Inst × ℕ) : Type 0 where
  within : d.1 ≤ length x
  spelled : Spells (take d.1 x) d.0

front_is : (x : List ℕ) (i : Inst) (y : List ℕ) (d : Inst × ℕ) → read_at x ≡ Ok (i, y) → as_found x (Ok (i, y)) ≡ Some d → Fronts x d
front_is x i y d e f =
    let p = if_some (list_all (λ b. nat_lt b 256) (take (length x - length y) x)) (i, length x - length y) d f in
    let k = reads_all.sound x i y e in
    let l : length x ≡ length k.0 + length y = ap length k.1 ∙ length-append k.0 y in
    let n : length x - length y ≡ length k.0 = omega (arith, l) in
    let t : take (length x - length y) x ≡ k.0 = rw n (ap (take (length k.0)) k.1 ∙ take_at k.0 y (length k.0) refl) in
    let bytes : AreBytes k.0 = subst AreBytes t (bytes_are (take (length x - length y) x) p.0) in
    let s : Spells k.0 i = record { prefix = k.2.prefix; p = k.2.p; s = k.2.s; bytes = k.2.bytes; are_bytes = bytes; prefixes = k.2.prefixes; follows = k.2.follows } in
    subst (Fronts x) p.1 (record { within = omega arith; spelled = subst (λ (z : List ℕ). Spells z i) (sym t) s })

front_by : (x : List ℕ) (read : Read Inst) (d : Inst × ℕ) → read_at x ≡ read → as_found x read ≡ Some d → Fronts x d
front_by x (Ok r) d e f = front_is x r.0 r.1 d e f
front_by x (Err s) d e f = absurd (let z : ⊥ = cc in z)

found_front : (x : List ℕ) (n : ℕ) (i : Inst) → n ≤ length x → Spells (take n x) i → as_found x (read_at x) ≡ Some (i, n)
found_front x n i h s =
    let e : read_at x ≡ Ok (i, drop n x) = ap read_at (sym (take-append-drop n x)) ∙ again (take n x) i s (drop n x) in
    let l : length x - length (drop n x) ≡ n = omega (arith, h, length-drop n x) in
    ap (as_found x) e ∙ rw l (ap (λ (t : Bool). if t then Some (i, n) else None) (are_bytes (take n x) s.are_bytes))

-- an instruction that begins at an address is found there
pub begins_found : (m : List Segment) (r : Range) (a : ℕ) (i : Inst) (n : ℕ) → BeginsAt m r a i n → found m r a ≡ Some (i, n)
unfolding found
begins_found m r a i n b = found_front (bytes_to_end m r a) n i b.within b.spelled

-- and what is found begins there
pub found_begins : (m : List Segment) (r : Range) (a : ℕ) (d : Inst × ℕ) → found m r a ≡ Some d → BeginsAt m r a d.0 d.1
unfolding found
found_begins m r a d e =
    let f = front_by (bytes_to_end m r a) (read_at (bytes_to_end m r a)) d refl e in
    record { within = f.within; spelled = f.spelled }

no_more : (m : List Segment) (r : Range) (a : ℕ) (d : Option (Inst × ℕ)) → IsInstAt m r a None → found m r a ≡ d → None ≡ d
no_more m r a None h e = refl
no_more m r a (Some d) h e = absurd (h d.0 d.1 (found_begins m r a d e))

-- what is at an address is what is found there
pub inst_is : (m : List Segment) (r : Range) (a : ℕ) (d : Option (Inst × ℕ)) → IsInstAt m r a d → d ≡ found m r a
inst_is m r a None h = no_more m r a (found m r a) h refl
inst_is m r a (Some d) h = sym (begins_found m r a d.0 d.1 h)

-- ---- the path

from_path : (inst : Inst) → is_on_path inst ≡ true → goal_of inst ≡ None
from_path (i.JmpTo s) e = absurd (let z : ⊥ = cc in z)
from_path _ e = refl

goal_is : (inst : Inst) (goal : Operand) → goal_of inst ≡ Some goal → inst ≡ i.JmpTo goal
goal_is (i.JmpTo s) goal e = (let k : s ≡ goal = cc in ap i.JmpTo k)
goal_is _ goal e = absurd (let z : ⊥ = cc in z)

-- a path to a jump through a table
pub record Leads (m : List Segment) (r : Range) (x : Index) (n : ℕ) (k : Known) (a : ℕ) (j : ℕ × ℕ) : Type 0 where
  pub insts : List Inst
  pub path : IsPath m r j.0 a insts
  pub few : suc (length insts) ≤ n
  pub goal : Operand
  pub jump_size : ℕ
  pub jumps : BeginsAt m r j.0 (i.JmpTo goal) jump_size
  pub through : table_of (after_all x k insts).forms goal ≡ Some j.1

leads_on : (m : List Segment) (r : Range) (x : Index) (n : ℕ) (k : Known) (a : ℕ) (j : ℕ × ℕ) (d : Inst × ℕ) → BeginsAt m r a d.0 d.1 → is_on_path d.0 ≡ true
    → Leads m r x n (after x k d.0) (next_of a d.1) j → Leads m r x (suc n) k a j
leads_on m r x n k a j d b p l = record {
  insts = d.0 ∷ l.insts;
  path = IsPath.onward a d.1 d.0 l.insts b p l.path;
  few = omega (arith, l.few);
  goal = l.goal;
  jump_size = l.jump_size;
  jumps = l.jumps;
  through = l.through;
}

leads_here : (m : List Segment) (r : Range) (x : Index) (n : ℕ) (k : Known) (a : ℕ) (j : ℕ × ℕ) (d : Inst × ℕ) (goal : Operand) → BeginsAt m r a d.0 d.1
    → goal_of d.0 ≡ Some goal → option_map (λ t. (a, t)) (table_of k.forms goal) ≡ Some j → Leads m r x (suc n) k a j
leads_here m r x n k a j d goal b g e =
    let t = map_some (λ (t : ℕ). (a, t)) (table_of k.forms goal) j e in
    subst (Leads m r x (suc n) k a) t.2 (record {
      insts = [];
      path = IsPath.over;
      few = omega arith;
      goal = goal;
      jump_size = d.1;
      jumps = subst (λ (inst : Inst). BeginsAt m r a inst d.1) (goal_is d.0 goal g) b;
      through = t.1;
    })

leads_by : (m : List Segment) (r : Range) (x : Index) (n : ℕ) (k : Known) (a : ℕ) (j : ℕ × ℕ) (d : Inst × ℕ) (g : Option Operand) (p : Bool) → BeginsAt m r a d.0 d.1
    → goal_of d.0 ≡ g → is_on_path d.0 ≡ p → unless_jump g k a (if p then jump_from m r x n (after x k d.0) (next_of a d.1) else None) ≡ Some j
    → (jump_from m r x n (after x k d.0) (next_of a d.1) ≡ Some j → Leads m r x n (after x k d.0) (next_of a d.1) j)
    → Leads m r x (suc n) k a j
leads_by m r x n k a j d (Some goal) p b g q e rest = leads_here m r x n k a j d goal b g e
leads_by m r x n k a j d None true b g q e rest = leads_on m r x n k a j d b q (rest e)
leads_by m r x n k a j d None false b g q e rest = absurd (let z : ⊥ = cc in z)

-- the jump that is found is one to which a path leads
pub jump_leads : (m : List Segment) (r : Range) (x : Index) (n : ℕ) (k : Known) (a : ℕ) (j : ℕ × ℕ) → jump_from m r x n k a ≡ Some j → Leads m r x n k a j
unfolding jump_from
jump_leads m r x zero k a j e = absurd (let z : ⊥ = cc in z)
jump_leads m r x (suc n) k a j e =
    let d = then_some (λ d. unless_jump (goal_of d.0) k a (if is_on_path d.0 then jump_from m r x n (after x k d.0) (next_of a d.1) else None)) (found m r a) j e in
    leads_by m r x n k a j d.0 (goal_of d.0.0) (is_on_path d.0.0) (found_begins m r a d.0 d.1) refl refl d.2
    (λ f. jump_leads m r x n (after x k d.0.0) (next_of a d.0.1) j f)

-- a jump to which a path leads is found
pub path_found : (m : List Segment) (r : Range) (x : Index) (n : ℕ) (k : Known) (a : ℕ) (j : ℕ × ℕ) (insts : List Inst) (goal : Operand) (size : ℕ)
    → IsPath m r j.0 a insts → suc (length insts) ≤ n → BeginsAt m r j.0 (i.JmpTo goal) size → table_of (after_all x k insts).forms goal ≡ Some j.1
    → jump_from m r x n k a ≡ Some j
unfolding jump_from
path_found m r x zero k a j insts goal size p few b t = absurd (omega (arith, few))
path_found m r x (suc n) k a j [] goal size IsPath.over few b t =
    rw (begins_found m r j.0 (i.JmpTo goal) size b) (ap (option_map (λ t. (j.0, t))) t)
path_found m r x (suc n) k a j (inst ∷ rest) goal size (IsPath.onward _ l _ _ c q p) few b t =
    rw (begins_found m r a inst l c) (rw (from_path inst q) (rw q (path_found m r x n (after x k inst) (next_of a l) j rest goal size p (omega (arith, few)) b t)))
