-- Which string instructions repeat while ZF is set or clear: of those that have a spelling, the comparisons alone.
use Rattle.std.proofs.Common.{◌≡◌, ℕ, Bool, true, false, List, [], ◌∷◌, Option, Some, None, refl, sym, subst}
use Rattle.std.specs.List.{list_all}
use Rattle.x86_inst.specs.declared.Inst.{Inst}
use Rattle.x86_inst.specs.declared.Inst.TheVariants as i
use Rattle.x86_inst.specs.declared.Operand.TheVariants as operand
use Rattle.x86_inst.specs.declared.Rep.{Rep}
use Rattle.x86_inst.specs.declared.Rep.TheVariants as rep
use Rattle.x86_inst.specs.declared.Seg.{Seg}
use Rattle.x86_inst.specs.declared.Size.{Size}
use Rattle.x86_inst.specs.declared.StrOp.{StrOp}
use Rattle.x86_inst.specs.declared.StrOp.TheVariants.{Movs, Cmps, Stos, Lods, Scas}
use Rattle.x86_inst.specs.Rows.{Prefixes, Mode, Fields, Row}
use Rattle.x86_inst.specs.Table.{table}
use Rattle.x86_inst.specs.Spelling.{fields, little_endian, Follows, Operands}
use Rattle.x86_formed.specs.Formed.{HasSpelling}
use Rattle.x86_formed.proofs.Ranges.{all_get}

-- a comparison may repeat by ZF, which it sets; the others may not
abbrev pub may_repeat : StrOp → Rep → Bool
may_repeat Cmps r = true
may_repeat Scas r = true
may_repeat Movs rep.No = true
may_repeat Movs rep.Rep = true
may_repeat Movs rep.Repe = false
may_repeat Movs rep.Repne = false
may_repeat Stos rep.No = true
may_repeat Stos rep.Rep = true
may_repeat Stos rep.Repe = false
may_repeat Stos rep.Repne = false
may_repeat Lods rep.No = true
may_repeat Lods rep.Rep = true
may_repeat Lods rep.Repe = false
may_repeat Lods rep.Repne = false

abbrev repeats_well : Inst → Bool
repeats_well (i.Str f size r s) = may_repeat f r
repeats_well _ = true

-- each row gives such instructions alone, whatever its fields are
table_repeats : (f : Fields) (o : Option ℕ) → list_all (λ r. repeats_well (r.inst (record f { repeat = o }))) table ≡ true
unfolding table
table_repeats f None = refl
table_repeats f (Some b) = refl

-- the instruction of a row is the row's at some fields
by_row : (r : Row) (p : Prefixes) (low : ℕ) (x : Inst) (o : Option Mode) (s : List ℕ) → Operands r p low o s x → (f : Fields) × (x ≡ r.inst f)
by_row r p low x None s h = (fields p low 0 (operand.Reg 0) (little_endian s), h.1)
by_row r p low x (Some k) [] h = absurd h
by_row r p low x (Some k) (m ∷ s) h = (fields p low _ h.1.rm (little_endian h.1.imm), h.1.inst)

follows_repeats : (p : Prefixes) (s : List ℕ) (x : Inst) → Follows p s x → repeats_well x ≡ true
follows_repeats p s x h =
    let (f, e) = by_row h.r p h.low x h.r.modrm h.rest h.operands in
    subst (λ (y : Inst). repeats_well y ≡ true) (sym e) (all_get (λ r. repeats_well (r.inst f)) table h.place h.r (table_repeats f f.repeat) h.listed)

pub spelled_may_repeat : (f : StrOp) (size : Size) (r : Rep) (s : Seg) → HasSpelling (i.Str f size r s) → may_repeat f r ≡ true
spelled_may_repeat f size r s h = follows_repeats h.1.p h.1.s (i.Str f size r s) h.1.follows
