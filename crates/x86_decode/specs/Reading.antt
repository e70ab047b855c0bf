-- Reading from left to right. Cut means that the bytes end within a spelling, and Bad that no spelling begins so.
use Rattle.std.specs.Prelude.{◌≡◌, ℕ, ◌/◌, ◌%◌, Bool, true, false, ◌&&◌, ◌==◌, nat_lt, if◌then◌else◌, List, [], ◌∷◌, Option, Some, None, Result, Ok, Err, unwrap_or, length, take, drop}
use Rattle.std.specs.List.{find, list_any}
use Rattle.x86_inst.specs.declared.Inst.{Inst}
use Rattle.x86_inst.specs.declared.Seg.{Seg}
use Rattle.x86_inst.specs.declared.Operand.{Operand}
use Rattle.x86_inst.specs.declared.Operand.TheVariants as operand
use Rattle.x86_inst.specs.Rows.{Prefixes, Row, Mode, width, operand_size, segment_of}
use Rattle.x86_inst.specs.Table.{table}
use Rattle.x86_inst.specs.Spelling.{is_size, is_segment, is_repeat, allows, displacement_len, mem, index_of, scale_of, fields, little_endian}
use Rattle.x86_decode.specs.declared.fields.Stop.{Stop}
use Rattle.x86_decode.specs.declared.fields.Stop.TheVariants.{Cut, Bad}
use Rattle.x86_decode.specs.View.{place, opens, opens_at}

-- a value and the bytes after it
abbrev pub Read : Type 0 → Type 0
Read A = Result (A × List ℕ) Stop

infixl 10 ◌>>=◌
abbrev pub ◌>>=◌ : {A B : Type 0} → Result A Stop → (A → Result B Stop) → Result B Stop
(Ok x) >>= f = f x
(Err e) >>= f = Err e

-- some bytes from the front
abbrev pub bytes_at : ℕ → List ℕ → Read (List ℕ)
bytes_at n x = if nat_lt (length x) n then Err Cut else Ok (take n x, drop n x)

-- a number of little-endian bytes
abbrev pub number_at : ℕ → List ℕ → Read ℕ
number_at n x = bytes_at n x >>= λ d. Ok (little_endian d.0, d.1)

-- one byte, and then what f reads
abbrev pub byte_then : {A : Type 0} → (ℕ → List ℕ → Read A) → List ℕ → Read A
byte_then f [] = Err Cut
byte_then f (b ∷ x) = f b x

-- a prefix whose group is free
abbrev pub once : {A : Type 0} → Option ℕ → Read A → Read A
once None go = go
once (Some b) go = Err Bad

-- the prefixes at the front, up to the first byte that is none
unfoldable pub prefixes_at : Prefixes → List ℕ → Read Prefixes
prefixes_at p [] = Err Cut
prefixes_at p (b ∷ x) =
    if is_size b then once p.size (prefixes_at (record p { size = Some b }) x) else
    if is_segment b then once p.segment (prefixes_at (record p { segment = Some b }) x) else
    if is_repeat b then once p.repeat (prefixes_at (record p { repeat = Some b }) x) else
    Ok (p, b ∷ x)

-- a displacement from a base
abbrev pub displaced_at : Seg → (md base : ℕ) → Option ℕ → (scale : ℕ) → List ℕ → Read Operand
displaced_at seg md base index scale x = bytes_at (displacement_len md base) x >>= λ d. Ok (mem seg md base index scale d.0, d.1)

-- what follows a SIB byte
abbrev pub sib_at : Seg → (md sib : ℕ) → List ℕ → Read Operand
sib_at seg md sib x = displaced_at seg md (sib % 8) (index_of (sib / 8 % 8)) (scale_of (sib / 64) (sib / 8 % 8)) x

-- what completes the r/m operand of a ModRM byte
unfoldable pub rm_at : Seg → (md rm : ℕ) → List ℕ → Read Operand
rm_at seg md rm x =
    if md == 3 then Ok (operand.Reg rm, x) else
    if rm == 4 then byte_then (sib_at seg md) x else
    displaced_at seg md rm None 1 x

-- what follows the ModRM byte m
unfoldable pub completes_at : Row → Prefixes → (low m : ℕ) → List ℕ → Read Inst
completes_at r p low m x =
    rm_at (segment_of p.segment) (m / 64) (m % 8) x >>= λ o.
    number_at (width r.imm (operand_size p.size)) o.1 >>= λ n.
    Ok (r.inst (fields p low (m / 8 % 8) o.0 n.0), n.1)

-- the opcode's place in the row
abbrev pub low_at : Row → ℕ → ℕ
low_at r op = unwrap_or (place r op) 0

-- what follows a ModRM byte, by the row that takes it
abbrev pub chosen_at : Prefixes → (op m : ℕ) → Option Row → List ℕ → Read Inst
chosen_at p op m None x = Err Bad
chosen_at p op m (Some r) x = completes_at r p (low_at r op) m x

-- what follows an opcode, by the first row that has it
abbrev pub operands_at : Prefixes → Bool → (op : ℕ) → Row → Option Mode → List ℕ → Read Inst
operands_at p escape op r None x =
    number_at (width r.imm (operand_size p.size)) x >>= λ n.
    Ok (r.inst (fields p (low_at r op) 0 (operand.Reg 0) n.0), n.1)
operands_at p escape op r (Some k) x =
    byte_then (λ m y. chosen_at p op m (find (opens_at p escape op m) table) y) x

-- the same, where there is such a row
abbrev pub opened_at : Prefixes → Bool → ℕ → Option Row → List ℕ → Read Inst
opened_at p escape op None x = Err Bad
opened_at p escape op (Some r) x = operands_at p escape op r r.modrm x

-- what follows an opcode
unfoldable pub row_at : Prefixes → Bool → ℕ → List ℕ → Read Inst
row_at p escape op x = opened_at p escape op (find (opens p escape op) table) x

-- some row behind 0F allows the prefixes
abbrev pub allows_0F : Prefixes → Row → Bool
allows_0F p r = r.escape && allows r p

-- what follows the prefixes
unfoldable pub follows_at : Prefixes → List ℕ → Read Inst
follows_at p x = byte_then (λ b y.
    if b == 0x0F then (if list_any (allows_0F p) table then byte_then (row_at p true) y else Err Bad) else
    row_at p false b y) x

-- an instruction
unfoldable pub read_at : List ℕ → Read Inst
read_at x = prefixes_at (record { size = None; segment = None; repeat = None }) x >>= λ p. follows_at p.0 p.1

-- What a function returned, seen by view, is what reading gives.
abbrev pub Gives : {X Y : Type 0} → (X → Y) → Result X Stop → Result Y Stop → Type 0
Gives view (Ok x) read = read ≡ Ok (view x)
Gives view (Err e) read = read ≡ Err e
