-- What follows an opcode is read as it is spelled.
use Rattle.std.proofs.Common.{◌≡◌, ℕ, Bool, true, List, [], ◌∷◌, Option, Some, None, Err, refl, sym, ap, subst, ◌∙◌}
use Rattle.std.specs.Prelude.{slice_get, IsTrue, nat_lt}
use Rattle.std.proofs.lemmas.Bool.{ltb-true}
use Rattle.std.specs.List.{find}
use Rattle.x86_inst.specs.declared.Inst.{Inst}
use Rattle.x86_inst.specs.declared.Operand.TheVariants as operand
use Rattle.x86_inst.specs.Rows.{Prefixes, Row, Mode, takes, width, operand_size}
use Rattle.x86_inst.specs.Table.{table}
use Rattle.x86_inst.specs.Spelling.{opcode, fields, little_endian, Completes, Operands}
use Rattle.x86_decode.specs.declared.fields.Stop.TheVariants.{Bad}
use Rattle.x86_decode.specs.View.{opens, opens_at, takes_modrm}
use Rattle.x86_decode.specs.Reading.{byte_then, completes_at, low_at, chosen_at, operands_at, opened_at, row_at}
use Rattle.x86_decode.proofs.Strings.{Reads, Some_of, reads_fail, reads_as, ByteThen, reads_byte}
use Rattle.x86_decode.proofs.Addresses.{Immediate, immediate_at, reads_immediate, some_immediate, reads_completes, some_completes}
use Rattle.x86_decode.proofs.Separate.{and_true, true_and, IsOpen, open_of, opens_of, find_some, find_none, same, distinct, two_rows, good_row, sample}

-- a row of the table with the opcode, and what follows it
pub record Row_follows (p : Prefixes) (escape : Bool) (op : ℕ) (s : List ℕ) (i : Inst) : Type 0 where
  pub r : Row
  pub place : ℕ
  pub low : ℕ
  pub listed : slice_get table place ≡ Some r
  pub opened : IsOpen r p escape op low
  pub operands : Operands r p low r.modrm s i

-- the same behind a ModRM byte
record Byte_follows (p : Prefixes) (escape : Bool) (op m : ℕ) (s : List ℕ) (i : Inst) : Type 0 where
  r : Row
  place : ℕ
  low : ℕ
  k : Mode
  listed : slice_get table place ≡ Some r
  opened : IsOpen r p escape op low
  mode : r.modrm ≡ Some k
  taken : takes k m ≡ true
  completes : Completes r p low m s i

low_is : (r : Row) (p : Prefixes) (escape : Bool) (op low : ℕ) → IsOpen r p escape op low → low_at r op ≡ low
low_is r p escape op low o = rw o.place_of refl

takes_of : (o : Option Mode) (m : ℕ) → takes_modrm o m ≡ true → (k : Mode) × (o ≡ Some k) × (takes k m ≡ true)
takes_of None m e = absurd cc
takes_of (Some k) m e = (k, refl, e)

-- ---- behind a ModRM byte

module _ (p : Prefixes) (escape : Bool) (op m : ℕ) where
  byte_fits : (r : Row) (low : ℕ) (k : Mode) → IsOpen r p escape op low → r.modrm ≡ Some k → takes k m ≡ true → opens_at p escape op m r ≡ true
  byte_fits r low k o e t = true_and (opens p escape op r) (takes_modrm r.modrm m) (opens_of r p escape op low o) (rw e t)

  -- only one row takes the byte
  only_row : (i j : ℕ) (r s : Row) (low : ℕ) (k : Mode) → slice_get table i ≡ Some r → slice_get table j ≡ Some s → IsOpen r p escape op low → r.modrm ≡ Some k → takes k m ≡ true → opens_at p escape op m s ≡ true → s ≡ r
  only_row i j r s low k g h o e t f =
      let u = and_true (opens p escape op s) (takes_modrm s.modrm m) f in
      let q = open_of s p escape op u.0 in
      let v = takes_of s.modrm m u.1 in
      elim (two_rows i j r s p escape op low q.0 g h o q.1) [
        | same eq ↦ sym eq
        | distinct b ↦
            let k-is : b.k ≡ k = let x : Some b.k ≡ Some k = sym b.k_is ∙ e in cc in
            let l-is : b.l ≡ v.0 = let x : Some b.l ≡ Some v.0 = sym b.l_is ∙ v.1 in cc in
            absurd (b.apart m (subst (λ z. takes z m ≡ true) (sym k-is) t) (subst (λ z. takes z m ≡ true) (sym l-is) v.2))
      ]

  byte_find : (s : List ℕ) (i : Inst) (h : Byte_follows p escape op m s i) → find (opens_at p escape op m) table ≡ Some h.r
  byte_find s i h = at (find (opens_at p escape op m) table) refl
    where
      at : (o : Option Row) → find (opens_at p escape op m) table ≡ o → find (opens_at p escape op m) table ≡ Some h.r
      at None e = absurd (find_none (opens_at p escape op m) table h.place h.r e h.listed (byte_fits h.r h.low h.k h.opened h.mode h.taken))
      at (Some r) e =
          let g = find_some (opens_at p escape op m) table r e in
          e ∙ ap (λ (x : Row). Some x) (only_row h.place g.1 h.r r h.low h.k h.listed g.2 h.opened h.mode h.taken g.0)

  -- where no row takes the byte
  byte_none : find (opens_at p escape op m) table ≡ None → (s : List ℕ) (i : Inst) → Byte_follows p escape op m s i → ⊥
  byte_none e s i h = find_none (opens_at p escape op m) table h.place h.r e h.listed (byte_fits h.r h.low h.k h.opened h.mode h.taken)

  byte_to : (r : Row) (e : find (opens_at p escape op m) table ≡ Some r) (s : List ℕ) (i : Inst) → Completes r p (low_at r op) m s i → Byte_follows p escape op m s i
  byte_to r e s i h =
      let g = find_some (opens_at p escape op m) table r e in
      let u = and_true (opens p escape op r) (takes_modrm r.modrm m) g.0 in
      let q = open_of r p escape op u.0 in
      let v = takes_of r.modrm m u.1 in
      record {
        r = r;
        place = g.1;
        low = q.0;
        k = v.0;
        listed = g.2;
        opened = q.1;
        mode = v.1;
        taken = v.2;
        completes = subst (λ n. Completes r p n m s i) (low_is r p escape op q.0 q.1) h;
      }

  byte_from : (r : Row) (e : find (opens_at p escape op m) table ≡ Some r) (s : List ℕ) (i : Inst) → Byte_follows p escape op m s i → Completes r p (low_at r op) m s i
  byte_from r e s i h =
      let k : h.r ≡ r = let x : Some h.r ≡ Some r = sym (byte_find s i h) ∙ e in cc in
      let l = low_is h.r p escape op h.low h.opened in
      subst (λ (x : Row). Completes x p (low_at x op) m s i) k (subst (λ n. Completes h.r p n m s i) (sym l) h.completes)

  reads_chosen : Reads (chosen_at p op m (find (opens_at p escape op m) table)) (Byte_follows p escape op m)
  reads_chosen = at (find (opens_at p escape op m) table) refl
    where
      at : (o : Option Row) → find (opens_at p escape op m) table ≡ o → Reads (chosen_at p op m o) (Byte_follows p escape op m)
      at None e = reads_as (λ x. Err Bad) (λ s a. ⊥) (Byte_follows p escape op m) reads_fail (λ s a h. absurd h) (λ s a h. byte_none e s a h)
      at (Some r) e = reads_as (completes_at r p (low_at r op) m) (Completes r p (low_at r op) m) (Byte_follows p escape op m) (reads_completes r p (low_at r op) m) (byte_to r e) (byte_from r e)

-- ---- behind an opcode

module _ (p : Prefixes) (escape : Bool) (op : ℕ) where
  -- by the first row that is open, which has ModRM
  with_byte : (i : ℕ) (r : Row) (low : ℕ) (k : Mode) → slice_get table i ≡ Some r → IsOpen r p escape op low → r.modrm ≡ Some k → Reads (byte_then (λ m y. chosen_at p op m (find (opens_at p escape op m) table) y)) (ByteThen (Byte_follows p escape op))
  with_byte i r low k g o e =
      let mode = (good_row i r g).mode in
      let good = and_true (takes k (sample k)) (nat_lt (sample k) 256) (rw e at mode) in
      let c = some_completes r p low (sample k) in
      reads_byte (λ m y. chosen_at p op m (find (opens_at p escape op m) table) y) (Byte_follows p escape op) (λ m. reads_chosen p escape op m)
      (sample k) (ltb-true _ _ good.1)
      (record { s = c.s; a = c.a; are_bytes = c.are_bytes; holds = record { r = r; place = i; low = low; k = k; listed = g; opened = o; mode = e; taken = good.0; completes = c.holds } })

  operands_byte : (s : List ℕ) (i : Inst) (r : Row) (low : ℕ) (o : Option Mode) (k : Mode) → o ≡ Some k → Operands r p low o s i → ByteThen (λ m t j. IsTrue (takes k m) × Completes r p low m t j) s i
  operands_byte s i r low None k e h = absurd cc
  operands_byte [] i r low (Some l) k e h = h
  operands_byte (m ∷ s) i r low (Some l) k e h = let eq : l ≡ k = cc in (subst (λ z. IsTrue (takes z m)) eq h.0, h.1)

  byte_operands : (m : ℕ) (s : List ℕ) (i : Inst) (r : Row) (low : ℕ) (o : Option Mode) (k : Mode) → o ≡ Some k → takes k m ≡ true → Completes r p low m s i → Operands r p low o (m ∷ s) i
  byte_operands m s i r low None k e t h = absurd cc
  byte_operands m s i r low (Some l) k e t h = let eq : l ≡ k = cc in (subst (λ z. takes z m ≡ true) (sym eq) t, h)

  byte_row : (s : List ℕ) (i : Inst) → ByteThen (Byte_follows p escape op) s i → Row_follows p escape op s i
  byte_row [] i h = absurd h
  byte_row (m ∷ s) i h = record { r = h.r; place = h.place; low = h.low; listed = h.listed; opened = h.opened; operands = byte_operands m s i h.r h.low h.r.modrm h.k h.mode h.taken h.completes }

  -- a row that is open has ModRM where the first has
  modrm_of : (i j : ℕ) (r s : Row) (low low' : ℕ) (k : Mode) → slice_get table i ≡ Some r → slice_get table j ≡ Some s → IsOpen r p escape op low → IsOpen s p escape op low' → r.modrm ≡ Some k → (l : Mode) × (s.modrm ≡ Some l)
  modrm_of i j r s low low' k g h o q e =
      elim (two_rows i j r s p escape op low low' g h o q) [
        | same eq ↦ (k, subst (λ (x : Row). x.modrm ≡ Some k) eq e)
        | distinct b ↦ (b.l, b.l_is)
      ]

  row_byte : (j : ℕ) (r0 : Row) (low0 : ℕ) (k0 : Mode) → slice_get table j ≡ Some r0 → IsOpen r0 p escape op low0 → r0.modrm ≡ Some k0 → (s : List ℕ) (i : Inst) → Row_follows p escape op s i → ByteThen (Byte_follows p escape op) s i
  row_byte j r0 low0 k0 g o e s i h =
      let l = modrm_of j h.place r0 h.r low0 h.low k0 g h.listed o h.opened e in
      split l.0 l.1 s (operands_byte s i h.r h.low h.r.modrm l.0 l.1 h.operands)
    where
      split : (l : Mode) → h.r.modrm ≡ Some l → (s : List ℕ) → ByteThen (λ m t j. IsTrue (takes l m) × Completes h.r p h.low m t j) s i → ByteThen (Byte_follows p escape op) s i
      split l e [] k = k
      split l e (m ∷ s) k = record { r = h.r; place = h.place; low = h.low; k = l; listed = h.listed; opened = h.opened; mode = e; taken = k.0; completes = k.1 }

  -- the first row that is open has no ModRM
  abbrev plain : Row → ℕ → Inst
  plain r n = r.inst (fields p (low_at r op) 0 (operand.Reg 0) n)

  none_to : (j : ℕ) (r : Row) (low : ℕ) → slice_get table j ≡ Some r → IsOpen r p escape op low → r.modrm ≡ None → (s : List ℕ) (i : Inst) → Immediate (width r.imm (operand_size p.size)) (plain r) s i → Row_follows p escape op s i
  none_to j r low g o e s i h =
      let l : i ≡ r.inst (fields p low 0 (operand.Reg 0) (little_endian s)) = h.1 ∙ ap (λ n. r.inst (fields p n 0 (operand.Reg 0) (little_endian s))) (low_is r p escape op low o) in
      record { r = r; place = j; low = low; listed = g; opened = o; operands = subst (λ z. Operands r p low z s i) (sym e) (h.0, l) }

  none_from : (j : ℕ) (r : Row) (low : ℕ) → slice_get table j ≡ Some r → IsOpen r p escape op low → r.modrm ≡ None → (s : List ℕ) (i : Inst) → Row_follows p escape op s i → Immediate (width r.imm (operand_size p.size)) (plain r) s i
  none_from j r low g o e s i h =
      elim (two_rows j h.place r h.r p escape op low h.low g h.listed o h.opened) [
        | distinct b ↦ absurd (let x : None ≡ Some b.k = sym e ∙ b.k_is in cc)
        | same eq ↦
            let low' : h.low ≡ low_at r op = sym (low_is h.r p escape op h.low h.opened) ∙ ap (λ (x : Row). low_at x op) (sym eq) in
            let a : Operands r p (low_at r op) r.modrm s i = subst (λ n. Operands r p n r.modrm s i) low' (subst (λ (x : Row). Operands x p h.low x.modrm s i) (sym eq) h.operands) in
            subst (λ z. Operands r p (low_at r op) z s i) e a
      ]

  opened_none : find (opens p escape op) table ≡ None → (s : List ℕ) (i : Inst) → Row_follows p escape op s i → ⊥
  opened_none e s i h = find_none (opens p escape op) table h.place h.r e h.listed (opens_of h.r p escape op h.low h.opened)

  reads_operands : (j : ℕ) (r : Row) (low : ℕ) → slice_get table j ≡ Some r → IsOpen r p escape op low → (o : Option Mode) → r.modrm ≡ o → Reads (operands_at p escape op r o) (Row_follows p escape op)
  reads_operands j r low g o None e =
      reads_as (immediate_at (width r.imm (operand_size p.size)) (plain r)) (Immediate (width r.imm (operand_size p.size)) (plain r)) (Row_follows p escape op)
      (reads_immediate (width r.imm (operand_size p.size)) (plain r)) (none_to j r low g o e) (none_from j r low g o e)
  reads_operands j r low g o (Some k) e =
      reads_as (byte_then (λ m y. chosen_at p op m (find (opens_at p escape op m) table) y)) (ByteThen (Byte_follows p escape op)) (Row_follows p escape op)
      (with_byte j r low k g o e) byte_row (row_byte j r low k g o e)

  reads_opened : (o : Option Row) → find (opens p escape op) table ≡ o → Reads (opened_at p escape op o) (Row_follows p escape op)
  reads_opened None e = reads_as (λ x. Err Bad) (λ s a. ⊥) (Row_follows p escape op) reads_fail (λ s a h. absurd h) (λ s a h. opened_none e s a h)
  reads_opened (Some r) e =
      let g = find_some (opens p escape op) table r e in
      let q = open_of r p escape op g.0 in
      reads_operands g.1 r q.0 g.2 q.1 r.modrm refl

  pub reads_row : Reads (row_at p escape op) (Row_follows p escape op)
  unfolding row_at
  reads_row = reads_opened (find (opens p escape op) table) refl

-- some row has the opcode, so some string follows it
pub some_row : (j : ℕ) (r : Row) (p : Prefixes) (low : ℕ) → slice_get table j ≡ Some r → IsOpen r p r.escape (opcode r low) low → Some_of (Row_follows p r.escape (opcode r low))
some_row j r p low g o = at r.modrm refl
  where
    at : (m : Option Mode) → r.modrm ≡ m → Some_of (Row_follows p r.escape (opcode r low))
    at None e =
        let z = some_immediate (width r.imm (operand_size p.size)) (plain p r.escape (opcode r low) r) in
        record { s = z.s; a = z.a; are_bytes = z.are_bytes; holds = none_to p r.escape (opcode r low) j r low g o e z.s z.a z.holds }
    at (Some k) e =
        let mode = (good_row j r g).mode in
        let good = and_true (takes k (sample k)) (nat_lt (sample k) 256) (rw e at mode) in
        let c = some_completes r p low (sample k) in
        record {
          s = sample k ∷ c.s;
          a = c.a;
          are_bytes = (ltb-true _ _ good.1, c.are_bytes);
          holds = record { r = r; place = j; low = low; listed = g; opened = o; operands = byte_operands p r.escape (opcode r low) (sample k) c.s c.a r low r.modrm k e good.0 c.holds };
        }
