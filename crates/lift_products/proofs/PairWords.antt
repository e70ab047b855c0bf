-- What the writes of a pair of registers lead to.
use Rattle.std.proofs.Common.{◌≡◌, ℕ, [], ◌∷◌, Some, refl, ap, ◌∙◌}
use Rattle.dream_words.specs.declared.machine.Name.TheVariants as name
use Rattle.dream_words.specs.declared.machine.Regs.{Regs}
use Rattle.dream_words.specs.Words.{low_part}
use Rattle.run_parts.specs.World.{World, regs_in}
use Rattle.x86_inst.specs.declared.Size.{Size}
use Rattle.x86_inst.specs.declared.Size.TheVariants.{B, H, W}
use Rattle.x86_model.specs.Operands.{bits_of, with_part}
use Rattle.x86_model.specs.WideRows.{with_pair}
use Rattle.lift_parts.specs.Parts.{temp, set_part}
use Rattle.lift_parts.specs.Shown.{AreNames, Runs}
use Rattle.lift_parts.proofs.Chains.{runs_append}
use Rattle.lift_parts.proofs.Writes.{Sets, part_runs}
use Rattle.lift_blocks.proofs.MoveWords.{name_value}
use Rattle.lift_products.specs.Parts.{high_register, pair_writes}

pair_is : (size : Size) (r : Regs) (high low : ℕ) → with_part size (with_part size r 0 low) (high_register size) high ≡ with_pair size r high low
pair_is B r high low = refl
pair_is H r high low = refl
pair_is W r high low = refl

-- the pair's registers get the low parts of t2 and t1
pub pair_runs : (size : Size) (high low : ℕ) (w : World) → AreNames w.names → low_part (bits_of size) (w.names (name.T 1)) ≡ low_part (bits_of size) low
    → low_part (bits_of size) (w.names (name.T 2)) ≡ low_part (bits_of size) high → (u : World) × Runs (pair_writes size) w u × Sets (with_pair size (regs_in w.names) high low) w u
pair_runs size high low w h e f =
    let (u, one, first) = part_runs size 0 (temp 1) (w.names (name.T 1)) low w h (name_value w.names (name.T 1)) (h.words (name.T 1)) e in
    let (t, two, second) = part_runs size (high_register size) (temp 2) (w.names (name.T 2)) high u first.names (name_value u.names (name.T 2) ∙ ap Some (first.temps 2)) (h.words (name.T 2)) f in (
      t,
      runs_append (set_part size 0 (temp 1) ∷ []) (set_part size (high_register size) (temp 2) ∷ []) one two,
      record {
        regs = second.regs ∙ ap (λ r. with_part size r (high_register size) high) first.regs ∙ pair_is size (regs_in w.names) high low;
        names = second.names;
        flags = λ n. second.flags n ∙ first.flags n;
        temps = λ n. second.temps n ∙ first.temps n;
        fs = second.fs ∙ first.fs;
        gs = second.gs ∙ first.gs;
        mem = second.mem ∙ first.mem;
        pages = second.pages ∙ first.pages;
        left = second.left ∙ first.left;
        calls = second.calls ∙ first.calls;
      },
    )
