-- What the table's rows show, by one test over the whole table: it runs over the registers that the bytes can name.
use Rattle.std.proofs.Common.{◌≡◌, ℕ, ◌/◌, ◌%◌, ◌<◌, Bool, true, List, [], ◌∷◌, Option, Some, None, refl, sym, subst, arith}
use Rattle.std.specs.List.{list_all}
use Rattle.x86_inst.specs.declared.Inst.{Inst}
use Rattle.x86_inst.specs.declared.Seg.{Seg}
use Rattle.x86_inst.specs.declared.Operand.{Operand}
use Rattle.x86_inst.specs.declared.Operand.TheVariants as operand
use Rattle.x86_inst.specs.Rows.{Prefixes, Mode, Fields, Row, segment_of}
use Rattle.x86_inst.specs.Table.{table}
use Rattle.x86_inst.specs.Spelling.{fields, little_endian, Completes, Operands, Follows}
use Rattle.x86_formed.specs.Formed.{is_formed, SpelledIsFormed}
use Rattle.x86_formed.proofs.Ranges.{at_all_below, below, at_all_operands, at_rm, all_get}

-- without ModRM: at each place of the opcode
abbrev formed_by_opcode : Row → Fields → Bool
formed_by_opcode r f = at_all_below r.count (λ low. is_formed (r.inst (record f { low = low; reg = 0; rm = operand.Reg 0 })))

-- with ModRM: at each reg field and each r/m operand, whatever the place of the opcode
abbrev formed_by_modrm : Row → Fields → (scale disp : ℕ) → Seg → Bool
formed_by_modrm r f scale disp seg = at_all_below 8 (λ reg. at_all_operands scale disp seg (λ rm. is_formed (r.inst (record f { reg = reg; rm = rm }))))

abbrev all_formed : Option Mode → Row → Fields → (scale disp : ℕ) → Seg → Bool
all_formed None r f scale disp seg = formed_by_opcode r f
all_formed (Some k) r f scale disp seg = formed_by_modrm r f scale disp seg

-- each row shows only formed instructions, whatever the other fields are
table_formed : (f : Fields) (scale disp : ℕ) (seg : Seg) → list_all (λ r. all_formed r.modrm r f scale disp seg) table ≡ true
unfolding table
table_formed f scale disp seg = refl

-- what a row is given is formed
module _ (r : Row) (p : Prefixes) (low : ℕ) (within : low < r.count) (i : Inst) where
  abbrev given : (reg : ℕ) → Operand → (imm : ℕ) → Fields
  given reg rm imm = fields p low reg rm imm

  -- where there is no ModRM
  by_opcode : (imm : ℕ) → formed_by_opcode r (given 0 (operand.Reg 0) imm) ≡ true → i ≡ r.inst (given 0 (operand.Reg 0) imm) → is_formed i ≡ true
  by_opcode imm e k =
      subst (λ (x : Inst). is_formed x ≡ true) (sym k) (below (λ l. is_formed (r.inst (fields p l 0 (operand.Reg 0) imm))) r.count low within e)

  -- where there is
  by_modrm : ((f : Fields) (scale disp : ℕ) (seg : Seg) → formed_by_modrm r f scale disp seg ≡ true) → (m : ℕ) (s : List ℕ) → Completes r p low m s i → is_formed i ≡ true
  by_modrm e m s c =
      let reg = m / 8 % 8 in
      let imm = little_endian c.imm in
      let at = λ (scale disp : ℕ) (seg : Seg). below (λ n. at_all_operands scale disp seg (λ rm. is_formed (r.inst (given n rm imm)))) 8 reg (omega arith) (e (given reg (operand.Reg 0) imm) scale disp seg) in
      subst (λ (x : Inst). is_formed x ≡ true) (sym c.inst)
      (at_rm (λ rm. is_formed (r.inst (given reg rm imm))) at (segment_of p.segment) (m / 64) (m % 8) (omega arith) c.address c.rm c.operand)

  by_row : (o : Option Mode) → ((f : Fields) (scale disp : ℕ) (seg : Seg) → all_formed o r f scale disp seg ≡ true) → (s : List ℕ) → Operands r p low o s i → is_formed i ≡ true
  by_row None e s h = by_opcode (little_endian s) (e (given 0 (operand.Reg 0) (little_endian s)) 0 0 (segment_of None)) h.1
  by_row (Some k) e [] h = absurd h
  by_row (Some k) e (m ∷ s) h = by_modrm e m s h.1

-- what follows prefixes is formed
follows_formed : (p : Prefixes) (s : List ℕ) (i : Inst) → Follows p s i → is_formed i ≡ true
follows_formed p s i h =
    by_row h.r p h.low h.within i h.r.modrm
    (λ f scale disp seg. all_get (λ r. all_formed r.modrm r f scale disp seg) table h.place h.r (table_formed f scale disp seg) h.listed)
    h.rest h.operands

pub spelled_is_formed : SpelledIsFormed
spelled_is_formed x h = follows_formed h.1.p h.1.s x h.1.follows
