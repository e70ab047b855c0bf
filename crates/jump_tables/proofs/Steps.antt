-- One step of the way to a jump.
use Rattle.std.proofs.Common.{◌≡◌, ℕ, suc, Bool, true, false, if◌then◌else◌, List, take, Option, Some, None, IfSome, option_map, option_and_then, ap, ◌∙◌}
use Rattle.elf_image.specs.declared.image.Segment.{Segment}
use Rattle.elf_image.specs.declared.range.Range.{Range}
use Rattle.elf_image.specs.Range.{bytes_to_end}
use Rattle.x86_inst.specs.declared.Inst.{Inst}
use Rattle.x86_inst.specs.declared.Operand.{Operand}
use Rattle.x86_formed.specs.Formed.{is_formed}
use Rattle.x86_formed.proofs.Spelled.{spelled_is_formed}
use Rattle.jump_tables.specs.Forms.{Index, Known, is_on_path, after, table_of}
use Rattle.jump_tables.specs.Window.{next_of, IsInstAt}
use Rattle.jump_tables.specs.Found.{found, goal_of, unless_jump, jump_from, comparison_at, window_from, window_found}
use Rattle.jump_tables.specs.declared.windows.Comparison.{Comparison}

-- the instruction at an address is formed
pub inst_formed : (m : List Segment) (r : Range) (a : ℕ) (d : Option (Inst × ℕ)) → IsInstAt m r a d → IfSome d (λ d. is_formed d.0 ≡ true)
inst_formed m r a None h = tt
inst_formed m r a (Some d) h = spelled_is_formed d.0 (take d.1 (bytes_to_end m r a), h.spelled)

-- nothing is there
pub jump_nowhere : (m : List Segment) (r : Range) (x : Index) (n : ℕ) (k : Known) (a : ℕ) → found m r a ≡ None → jump_from m r x (suc n) k a ≡ None
unfolding jump_from
jump_nowhere m r x n k a e =
    ap (option_and_then (λ d. unless_jump (goal_of d.0) k a (if is_on_path d.0 then jump_from m r x n (after x k d.0) (next_of a d.1) else None))) e

jump_step : (m : List Segment) (r : Range) (x : Index) (n : ℕ) (k : Known) (a : ℕ) (d : Inst × ℕ) → found m r a ≡ Some d
    → jump_from m r x (suc n) k a ≡ unless_jump (goal_of d.0) k a (if is_on_path d.0 then jump_from m r x n (after x k d.0) (next_of a d.1) else None)
unfolding jump_from
jump_step m r x n k a d e =
    ap (option_and_then (λ d. unless_jump (goal_of d.0) k a (if is_on_path d.0 then jump_from m r x n (after x k d.0) (next_of a d.1) else None))) e

-- a jump is there
pub jump_here : (m : List Segment) (r : Range) (x : Index) (n : ℕ) (k : Known) (a : ℕ) (d : Inst × ℕ) (goal : Operand) → found m r a ≡ Some d → goal_of d.0 ≡ Some goal
    → jump_from m r x (suc n) k a ≡ option_map (λ t. (a, t)) (table_of k.forms goal)
jump_here m r x n k a d goal e g =
    jump_step m r x n k a d e
    ∙ ap (λ (o : Option Operand). unless_jump o k a (if is_on_path d.0 then jump_from m r x n (after x k d.0) (next_of a d.1) else None)) g

-- another instruction is there
jump_other : (m : List Segment) (r : Range) (x : Index) (n : ℕ) (k : Known) (a : ℕ) (d : Inst × ℕ) (p : Bool) → found m r a ≡ Some d → goal_of d.0 ≡ None → is_on_path d.0 ≡ p
    → jump_from m r x (suc n) k a ≡ (if p then jump_from m r x n (after x k d.0) (next_of a d.1) else None)
jump_other m r x n k a d p e g q =
    jump_step m r x n k a d e
    ∙ ap (λ (o : Option Operand). unless_jump o k a (if is_on_path d.0 then jump_from m r x n (after x k d.0) (next_of a d.1) else None)) g
    ∙ ap (λ (t : Bool). if t then jump_from m r x n (after x k d.0) (next_of a d.1) else None) q

pub jump_later : (m : List Segment) (r : Range) (x : Index) (n : ℕ) (k : Known) (a : ℕ) (d : Inst × ℕ) → found m r a ≡ Some d → goal_of d.0 ≡ None → is_on_path d.0 ≡ true
    → jump_from m r x (suc n) k a ≡ jump_from m r x n (after x k d.0) (next_of a d.1)
jump_later m r x n k a d e g q = jump_other m r x n k a d true e g q

pub jump_never : (m : List Segment) (r : Range) (x : Index) (n : ℕ) (k : Known) (a : ℕ) (d : Inst × ℕ) → found m r a ≡ Some d → goal_of d.0 ≡ None → is_on_path d.0 ≡ false
    → jump_from m r x (suc n) k a ≡ None
jump_never m r x n k a d e g q = jump_other m r x n k a d false e g q

pub jump_past : (m : List Segment) (r : Range) (x : Index) (n : ℕ) (k : Known) (a : ℕ) → n ≡ 0 → jump_from m r x n k a ≡ None
unfolding jump_from
jump_past m r x n k a e = ap (λ j. jump_from m r x j k a) e

-- ---- the window of a comparison

pub window_nowhere : (m : List Segment) (r : Range) (a : ℕ) → comparison_at m r a ≡ None → window_found m r a ≡ None
unfolding window_found
window_nowhere m r a e = ap (option_and_then (window_from m r)) e

pub window_here : (m : List Segment) (r : Range) (a : ℕ) (c : Comparison) → comparison_at m r a ≡ Some c → window_found m r a ≡ window_from m r c
unfolding window_found
window_here m r a c e = ap (option_and_then (window_from m r)) e
