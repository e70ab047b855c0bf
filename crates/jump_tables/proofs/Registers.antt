-- The forms of eight registers, and that an instruction writes one of these.
use Rattle.std.proofs.Common.{◌≡◌, ℕ, zero, suc, ◌-◌, ◌<◌, Bool, true, false, nat_lt, nat_eq, if◌then◌else◌, List, [], ◌∷◌, length, get_or, Some, IfSome, refl, sym, ap, ◌∙◌, arith}
use Rattle.std.proofs.Math.Path.{fun_ext}
use Rattle.std.proofs.Math.ListN.{set}
use Rattle.std.proofs.lemmas.Bool.{and_parts, ltb-true, eqb-true, eqb-false}
use Rattle.std.proofs.lemmas.List.{get_or-set_same, get_or-set_other}
use Rattle.x86_inst.specs.declared.Size.{Size}
use Rattle.x86_inst.specs.declared.Size.TheVariants.{B, H, W}
use Rattle.x86_inst.specs.declared.Operand.{Operand}
use Rattle.x86_inst.specs.declared.Operand.TheVariants as o
use Rattle.x86_inst.specs.declared.Inst.{Inst}
use Rattle.x86_inst.specs.declared.Inst.TheVariants as i
use Rattle.x86_formed.specs.Formed.{is_register, is_formed_operand, is_formed_mem, is_formed}
use Rattle.jump_tables.specs.declared.forms.Form.{Form}
use Rattle.jump_tables.specs.declared.forms.Form.TheVariants as form
use Rattle.jump_tables.specs.Forms.{Index, Forms, whole, whole_of, written, with_form, first_forms, at_first}
use Rattle.jump_tables.specs.Known.{forms_of, known_of}

-- a register is one of eight
whole_small : (size : Size) (n : ℕ) → n < 8 → whole size n < 8
whole_small B n h = by (nat_lt n 4)
  where
    by : (t : Bool) → (if t then n else n - 4) < 8
    by true = h
    by false = omega (arith, h)
whole_small H n h = h
whole_small W n h = h

operand_small : (size : Size) (d : Operand) → is_formed_operand d ≡ true → IfSome (whole_of size d) (λ r. r < 8)
operand_small size (o.Reg n) h = whole_small size n (ltb-true n 8 h)
operand_small size (o.Mem m) h = tt
operand_small size (o.Imm k) h = tt

-- what an instruction writes is one of eight
pub written_small : (inst : Inst) → is_formed inst ≡ true → IfSome (written inst) (λ r. r < 8)
written_small (i.Mov size d s) h = operand_small size d (and_parts (is_formed_operand d) _ h).0
written_small (i.Movx signed from to d s) h = whole_small to d (ltb-true d 8 (and_parts (is_register d) (is_formed_operand s) h).0)
written_small (i.Lea size d m) h = whole_small size d (ltb-true d 8 (and_parts (is_register d) (is_formed_mem m) h).0)
written_small (i.Shift op size d n) h = operand_small size d h
written_small (i.Alu op size d s) h = operand_small size d (and_parts (is_formed_operand d) _ h).0
written_small _ h = tt

-- ---- the forms

one_more : (xs : List Form) (r n : ℕ) (f : Form) (t : Bool) → r < length xs → nat_eq n r ≡ t → get_or (set xs r f) n form.Unknown ≡ (if t then f else get_or xs n form.Unknown)
one_more xs r n f true lt e = let k : n ≡ r = eqb-true n r e in rw k (get_or-set_same xs r f form.Unknown lt)
one_more xs r n f false lt e = get_or-set_other xs r n f form.Unknown (eqb-false n r e)

-- one register's form is another
pub written_is : (xs : List Form) (r : ℕ) (f : Form) → r < length xs → forms_of (set xs r f) ≡ with_form (forms_of xs) (Some r) f
written_is xs r f lt = fun_ext (λ n. one_more xs r n f (nat_eq n r) lt refl)

none_at : (f : Form) (n : ℕ) → get_or (f ∷ f ∷ f ∷ f ∷ f ∷ f ∷ f ∷ f ∷ []) n f ≡ f
none_at f zero = refl
none_at f (suc zero) = refl
none_at f (suc (suc zero)) = refl
none_at f (suc (suc (suc zero))) = refl
none_at f (suc (suc (suc (suc zero)))) = refl
none_at f (suc (suc (suc (suc (suc zero))))) = refl
none_at f (suc (suc (suc (suc (suc (suc zero)))))) = refl
none_at f (suc (suc (suc (suc (suc (suc (suc zero))))))) = refl
none_at f (suc (suc (suc (suc (suc (suc (suc (suc n)))))))) = refl

-- at first there are none
abbrev pub nothing : List Form
nothing = form.Unknown ∷ form.Unknown ∷ form.Unknown ∷ form.Unknown ∷ form.Unknown ∷ form.Unknown ∷ form.Unknown ∷ form.Unknown ∷ []

none_is : forms_of nothing ≡ (λ n. form.Unknown)
none_is = fun_ext (none_at form.Unknown)

-- but that of the index
pub first_is : (x : Index) (r : ℕ) (forms : List Form) → x.size ≡ W → x.operand ≡ o.Reg r → forms_of forms ≡ with_form (forms_of nothing) (Some r) (form.Scaled 1 0)
    → known_of (record { forms = forms; is_kept = true }) ≡ at_first x
first_is x r forms size operand e =
    let f : forms_of forms ≡ first_forms x.size x.operand =
    e ∙ ap (λ (g : Forms). with_form g (Some r) (form.Scaled 1 0)) none_is ∙ sym (ap (λ (s : Size). first_forms s x.operand) size ∙ ap (first_forms W) operand) in
    λ t. record { forms = f t; is_kept = true }
