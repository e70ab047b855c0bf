-- The values that words say are words of 32 bits.
use Rattle.std.proofs.Common.{◌≡◌, ℕ, ◌^◌, ◌<◌, ◌≤◌, inl, inr, Bool, true, false, cond, nat_eq, List, [], ◌∷◌, ◌++◌, Option, Some, None, refl, sym, ap, subst, ◌∙◌, arith, lit<}
use Rattle.std.specs.Prelude.{is_some, nat_le, ◌&&◌, unwrap_or}
use Rattle.std.specs.List.{before_first, after_first}
use Rattle.std.specs.Prelude.{◌==◌}
use Rattle.std.specs.Option.{option_and_then}
use Rattle.std.proofs.lemmas.Bool.{cases_Bool, and_parts, leb-true, true≢false}
use Rattle.elf_image.specs.declared.image.Segment.{Segment}
use Rattle.dream_words.specs.declared.machine.Regs.{Regs}
use Rattle.dream_words.specs.Registers.{with_reg}
use Rattle.dream_words.specs.Memory.{Mem}
use Rattle.dream_words.specs.Ranges.{AreWords, AreBytes}
use Rattle.dream_words.specs.declared.outcome.Start.{Start}
use Rattle.machine.specs.Run.{IsStart}
use Rattle.run_lines.specs.declared.words.StartWord.{StartWord}
use Rattle.run_lines.specs.declared.words.StartWord.TheVariants.{Register, Argument}
use Rattle.run_lines.specs.Numbers.{within, long_of, value_of}
use Rattle.run_lines.specs.StartWords.{register_of, said, start_word_of, register_in, registers_in, given_by}
use Rattle.run_lines.specs.Starts.{first_regs, with_registers, start_of, HasImage, IsStartOf}
use Rattle.run_lines.specs.Laws.{HoldsBytes}
use Rattle.run_lines.proofs.Loaded.{image_bytes}
use Rattle.run_lines.proofs.Stored.{arguments_bytes, arguments_keep}

-- ---- values

within_small : (n v : ℕ) → within 0 4294967295 n ≡ Some v → v < 2 ^ 32
within_small n v e = elim (cases_Bool (nat_le 0 n && nat_le n 4294967295)) [
  | inl t ↦
      let le : n ≤ 4294967295 = leb-true _ _ (and_parts (nat_le 0 n) (nat_le n 4294967295) t).1 in
      let is : n ≡ v = ap (λ o. unwrap_or o 0) (sym (ap (λ u. cond u (Some n) None) t) ∙ e) in
      omega (arith, le, is)
  | inr f ↦ absurd (true≢false (sym (ap is_some e) ∙ ap (λ u. is_some (cond u (Some n) None)) f))
]

value_small : (o : Option ℕ) (v : ℕ) → option_and_then (within 0 4294967295) o ≡ Some v → v < 2 ^ 32
value_small None v e = absurd (true≢false (sym (ap is_some e)))
value_small (Some n) v e = within_small n v e

-- ---- registers

abbrev is_register : Option StartWord → Bool
is_register None = false
is_register (Some (Register n v)) = true
is_register (Some (Argument v)) = false

abbrev register_value : Option StartWord → ℕ
register_value None = 0
register_value (Some (Register n v)) = v
register_value (Some (Argument v)) = 0

said_value : (a b c : Option ℕ) (n v : ℕ) → said a b c ≡ Some (Register n v) → b ≡ Some v
said_value (Some x) b c n v e = absurd (true≢false (sym (ap is_register e)))
said_value None None c n v e = absurd (true≢false (sym (ap is_register e)))
said_value None (Some x) None n v e = absurd (true≢false (sym (ap is_register e)))
said_value None (Some x) (Some k) n v e = ap Some (ap register_value e)

register_small : (w : List ℕ) (n v : ℕ) → start_word_of w ≡ Some (Register n v) → v < 2 ^ 32
register_small w n v e =
    value_small (long_of (after_first (λ b. b == 61) w)) v
    (said_value (value_of w) (value_of (after_first (λ b. b == 61) w)) (register_of (before_first (λ b. b == 61) w)) n v e)

pick : (u : Bool) (x y : ℕ) → x < 2 ^ 32 → y < 2 ^ 32 → cond u x y < 2 ^ 32
pick true x y h k = h
pick false x y h k = k

with_reg_words : (r : Regs) (n v : ℕ) → AreWords r → v < 2 ^ 32 → AreWords (with_reg r n v)
with_reg_words r n v h k = record {
  eax = pick (nat_eq n 0) v r.eax k h.eax;
  ecx = pick (nat_eq n 1) v r.ecx k h.ecx;
  edx = pick (nat_eq n 2) v r.edx k h.edx;
  ebx = pick (nat_eq n 3) v r.ebx k h.ebx;
  esp = pick (nat_eq n 4) v r.esp k h.esp;
  ebp = pick (nat_eq n 5) v r.ebp k h.ebp;
  esi = pick (nat_eq n 6) v r.esi k h.esi;
  edi = pick (nat_eq n 7) v r.edi k h.edi;
}

-- the registers after a word, and the words that follow it
after_word : (o : Option StartWord) (ps : List (ℕ × ℕ)) (r : Regs) → ((n v : ℕ) → o ≡ Some (Register n v) → v < 2 ^ 32)
    → ((s : Regs) → AreWords s → AreWords (with_registers s ps)) → AreWords r → AreWords (with_registers r (register_in o ++ ps))
after_word None ps r small rest h = rest r h
after_word (Some (Argument v)) ps r small rest h = rest r h
after_word (Some (Register n v)) ps r small rest h = rest (with_reg r n v) (with_reg_words r n v h (small n v refl))

registers_words : (ws : List (List ℕ)) (r : Regs) → AreWords r → AreWords (with_registers r (registers_in ws))
registers_words [] r h = h
registers_words (w ∷ ws) r h = after_word (start_word_of w) (registers_in ws) r (register_small w) (registers_words ws) h

first_words : AreWords first_regs
first_words = record {
  eax = lit< tt;
  ecx = lit< tt;
  edx = lit< tt;
  ebx = lit< tt;
  esp = lit< tt;
  ebp = lit< tt;
  esi = lit< tt;
  edi = lit< tt;
}

-- ---- starts

start_is : (m : List Segment) (words : List (List ℕ)) (before : Mem) → AreBytes before → HasImage m before
    → IsStart m (start_of m (given_by words) before)
start_is m words before bytes image =
    let given = given_by words in
    let regs = with_registers first_regs given.registers in
    record {
      regs = registers_words words first_regs first_words;
      fs = lit< tt;
      gs = lit< tt;
      bytes = arguments_bytes m before regs.esp given.arguments bytes;
      frozen_bytes = λ a b e. arguments_keep m a b e before regs.esp given.arguments ∙ image.frozen a b e;
    }

pub starts_start : (m : List Segment) (words : List (List ℕ)) (s : Start) → HoldsBytes m → IsStartOf m (given_by words) s → IsStart m s
starts_start m words s h of =
    subst (IsStart m) (sym of.is) (start_is m words of.before (image_bytes m of.before h of.image) of.image)
