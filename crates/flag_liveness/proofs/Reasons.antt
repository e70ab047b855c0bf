-- Flags are live since they are read.
use Rattle.std.proofs.Common.{◌≡◌, inl, inr, ℕ, zero, suc, ◌<◌, ◌≤◌, nat_lt, Bool, true, false, not, ◌||◌, List, [], ◌∷◌, Option, Some, length, get_or, set, drop, map, refl, sym, ap, subst, ◌∙◌, arith}
use Rattle.std.proofs.lemmas.Bool.{false≢true, cases_eq}
use Rattle.std.proofs.lemmas.Option.{slice_get-get_or, slice_get-map, slice_get_within, slice_get_cases}
use Rattle.std.specs.Prelude.{IsTrue, Contains, slice_get}
use Rattle.std.specs.Option.{option_map}
use Rattle.std.specs.Ordering.{nat_cmp}
use Rattle.std.specs.BTreeSet as tree
use Rattle.std.specs.BTreeSet.{BTreeSet}
use Rattle.dream_words.specs.declared.machine.Name.{Name}
use Rattle.dream_words.specs.declared.machine.Name.TheVariants as n
use Rattle.micro_ir.specs.declared.flow.Stmt.{Stmt}
use Rattle.micro_ir.specs.declared.flow.Stmt.TheVariants as stmt
use Rattle.micro_ir.specs.declared.flow.Block.{Block}
use Rattle.micro_ir.specs.declared.flow.Flow.{Flow}
use Rattle.micro_ir.specs.Checked.{nodes_of}
use Rattle.micro_ir.specs.Rule.{IsGiven, is_flow_target, is_flow_word, is_flow_stmt, are_flow_stmts}
use Rattle.micro_ir.proofs.Values.{both_true}
use Rattle.flow_passes.specs.Uses.{NameSet}
use Rattle.flow_passes.specs.Laws.{Within}
use Rattle.flow_passes.proofs.Names.{or_left, either_of}
use Rattle.flag_liveness.specs.declared.row.Row.{Row}
use Rattle.flag_liveness.specs.declared.live.Live.{Live}
use Rattle.flag_liveness.specs.declared.seen.Seen.{Seen}
use Rattle.flag_liveness.specs.Rows.{row_names, is_in_rows, SameRow}
use Rattle.flag_liveness.specs.Before.{live_before_all, live_at, live_in}
use Rattle.flag_liveness.specs.Within.{row_or_temps, names_within, Agree}
use Rattle.flag_liveness.specs.Lives.{row_in, across_of, held_in, live_of}
use Rattle.flag_liveness.specs.Clean.{cleaned, cleaned_block, cleaned_flow}
use Rattle.flag_liveness.specs.Settled.{Grows}
use Rattle.flag_liveness.specs.Read.{IsReadFrom, FlagsAreRead}
use Rattle.flag_liveness.specs.Reasons.{NodesInside, HaveReasons}
use Rattle.flag_liveness.proofs.Closing.{and_self, and_not, not_target, target_live}
use Rattle.flag_liveness.proofs.Kept.{block_rule, stmts_rule, unmapped}
use Rattle.flag_liveness.proofs.ReadOn.{end_within, read_on, read_at_end, kept_set}

-- ---- from what is live, by reasons

module _ (blocks : List Block) (live more : ℕ → NameSet) (within : (k : ℕ) → Within (live k) (more k)) (reasons : HaveReasons blocks live) (i : ℕ) (exists : IsTrue (is_in_rows (n.Flag i))) where
  from_node : (k : ℕ) (b : Block) → k < length blocks → live k (n.Flag i) ≡ true
      → (d : Block) × (slice_get (map (cleaned_block more) blocks) k ≡ Some d) × IsReadFrom (map (cleaned_block more) blocks) (n.Flag i) d.stmts d.end
  from_node k b l t =
      let x = get_or blocks k b in
      let at : slice_get blocks k ≡ Some x = slice_get-get_or blocks k b l in
      (cleaned_block more x, slice_get-map (cleaned_block more) blocks k ∙ ap (option_map (cleaned_block more)) at, reasons.of more within k i x at exists t)

  -- a flag that is live before some statements of a block is read from there on
  pub from_stmts : (b : Block) (ss : List Stmt) → ((a : ℕ) → Contains (nodes_of b.end) a → a < length blocks) → live_before_all ss (live_at b.end live) (n.Flag i) ≡ true
      → IsReadFrom (map (cleaned_block more) blocks) (n.Flag i) (cleaned ss (live_at b.end more)) b.end
  from_stmts b ss inside t =
      read_on (map (cleaned_block more) blocks) b.end (n.Flag i) ss (live_at b.end live) (live_at b.end more) (end_within b.end live more within) t
      (λ h. read_at_end (map (cleaned_block more) blocks) b.end live (n.Flag i) (λ a is_node q. from_node a b (inside a is_node) q) h)

-- ---- a row that grows

-- what is live at the beginning of a block, by its row and the temporaries
abbrev live_by : Option Row → BTreeSet ℕ → NameSet
live_by row temps i = not (is_flow_target i) || row_or_temps (row_in row) (tree.contains nat_cmp temps) i

same_live : (old new : Live) (j : ℕ) (i : Name) → new.temps ≡ old.temps → slice_get new.rows.items j ≡ slice_get old.rows.items j → live_of new j i ≡ live_of old j i
same_live old new j i t r = ap (λ row. live_by row new.temps i) r ∙ ap (λ temps. live_by (slice_get old.rows.items j) temps i) t

module _ (b : Block) (k : ℕ) (old new : Live) (temps : new.temps ≡ old.temps) (grows : Grows b k old new) where
  row_more : Within (live_of old k) (live_of new k)
  row_more (n.Reg i) t = by (nat_lt i 8) refl where
    by : (x : Bool) → nat_lt i 8 ≡ x → IsTrue (live_of new k (n.Reg i))
    by true q = grows.row (n.Reg i) q ∙ or_left (live_of old k (n.Reg i)) (live_in b (live_of old) (n.Reg i)) t
    by false q = not_target (n.Reg i) (held_in new k (n.Reg i)) (and_not (nat_lt i 8) q)
  row_more (n.Flag i) t = by (nat_lt i 5) refl where
    by : (x : Bool) → nat_lt i 5 ≡ x → IsTrue (live_of new k (n.Flag i))
    by true q = grows.row (n.Flag i) q ∙ or_left (live_of old k (n.Flag i)) (live_in b (live_of old) (n.Flag i)) t
    by false q = not_target (n.Flag i) (held_in new k (n.Flag i)) (and_not (nat_lt i 5) q)
  row_more (n.T i) t = ap (λ x. not (is_flow_target (n.T i)) || tree.contains nat_cmp x i) temps ∙ t
  row_more n.Fs t = refl
  row_more n.Gs t = refl
  row_more (n.B i) t = refl
  row_more (n.S i) t = refl

  -- what was live at the beginning of a block is so when a row has grown
  all_more : (j : ℕ) → Within (live_of old j) (live_of new j)
  all_more j = elim (cases_eq j k) [
    | inl y ↦ subst (λ x. Within (live_of old x) (live_of new x)) (sym y) row_more
    | inr y ↦ λ i t. same_live old new j i temps (grows.others j y) ∙ t
  ]

some_same : (x b : Block) (o : Option Block) → o ≡ Some x → o ≡ Some b → b ≡ x
some_same x b o p q = cc

-- when a row has grown, there are reasons still
pub reasons_more : (blocks : List Block) (b : Block) (k : ℕ) (old new : Live) → NodesInside blocks → slice_get blocks k ≡ Some b → new.temps ≡ old.temps → Grows b k old new → HaveReasons blocks (live_of old) → HaveReasons blocks (live_of new)
reasons_more blocks b k old new inside at temps grows reasons = record {
  of = λ more w j i c s exists t.
      let within : (m : ℕ) → Within (live_of old m) (more m) = λ m a r. w m a (all_more b k old new temps grows m a r) in
      elim (cases_eq j k) [
        | inl y ↦
            let here : slice_get blocks k ≡ Some c = ap (slice_get blocks) (sym y) ∙ s in
            let same : c ≡ b = some_same b c (slice_get blocks k) at here in
            let live : IsTrue (live_of old k (n.Flag i) || live_in b (live_of old) (n.Flag i)) = sym (grows.row (n.Flag i) exists) ∙ ap (λ x. live_of new x (n.Flag i)) (sym y) ∙ t in
            elim (either_of (live_of old k (n.Flag i)) (live_in b (live_of old) (n.Flag i)) live) [
              | inl h ↦ reasons.of more within k i c here exists h
              | inr h ↦ subst (λ (x : Block). IsReadFrom (map (cleaned_block more) blocks) (n.Flag i) (cleaned x.stmts (live_at x.end more)) x.end) (sym same)
                  (from_stmts blocks (live_of old) more within reasons i exists b b.stmts (λ a is_node. inside k a b at is_node) h)
            ]
        | inr y ↦ reasons.of more within j i c s exists (sym (same_live old new j (n.Flag i) temps (grows.others j y)) ∙ t)
      ];
}

-- where no flag is live, each has a reason
pub reasons_none : (blocks : List Block) (rows : List Row) (temps : BTreeSet ℕ) → length rows ≡ length blocks → ((k : ℕ) (r : Row) → slice_get rows k ≡ Some r → SameRow (row_names r) (λ i. false))
    → HaveReasons blocks (λ k i. live_by (slice_get rows k) temps i)
reasons_none blocks rows temps size none = record {
  of = λ more w k i b s exists t.
      let row : IsTrue (row_in (slice_get rows k) (n.Flag i)) = sym (target_live (n.Flag i) (row_in (slice_get rows k) (n.Flag i)) (and_self (nat_lt i 5) exists)) ∙ t in
      let inside : k < length blocks = slice_get_within blocks k b s in
      elim (slice_get_cases rows k).1 [
        | inl h ↦ absurd (false≢true (sym (none k h.0 h.2 (n.Flag i) exists) ∙ ap (λ o. row_in o (n.Flag i)) (sym h.2) ∙ row))
        | inr h ↦ let past : length rows ≤ k = h.0 in absurd (omega arith)
      ];
}

-- ---- what a row's growth is

set_same : (rows : List Row) (k : ℕ) (r : Row) → k < length rows → slice_get (set rows k r) k ≡ Some r
set_same [] k r l = absurd (omega arith)
set_same (x ∷ rows) zero r l = refl
set_same (x ∷ rows) (suc k) r l = set_same rows k r (omega arith)

set_others : (rows : List Row) (k j : ℕ) (r : Row) → (j ≡ k → ⊥) → slice_get (set rows k r) j ≡ slice_get rows j
set_others [] k j r d = refl
set_others (x ∷ rows) zero zero r d = absurd (d refl)
set_others (x ∷ rows) zero (suc j) r d = refl
set_others (x ∷ rows) (suc k) zero r d = refl
set_others (x ∷ rows) (suc k) (suc j) r d = set_others rows k j r (λ e. d (ap suc e))

-- a register or a flag of a row is live
row_live : (l : Live) (k : ℕ) (r : Row) (i : Name) → IsTrue (is_in_rows i) → slice_get l.rows.items k ≡ Some r → live_of l k i ≡ row_names r i
row_live l k r (n.Reg i) t at = target_live (n.Reg i) (held_in l k (n.Reg i)) (and_self (nat_lt i 8) t) ∙ ap (λ o. row_in o (n.Reg i)) at
row_live l k r (n.Flag i) t at = target_live (n.Flag i) (held_in l k (n.Flag i)) (and_self (nat_lt i 5) t) ∙ ap (λ o. row_in o (n.Flag i)) at
row_live l k r n.Fs t at = absurd (false≢true t)
row_live l k r n.Gs t at = absurd (false≢true t)
row_live l k r (n.T i) t at = absurd (false≢true t)
row_live l k r (n.B i) t at = absurd (false≢true t)
row_live l k r (n.S i) t at = absurd (false≢true t)

-- what is live at a place, of the registers and flags
seen_row : (all : NameSet) (across : ℕ → Bool) (s : Seen) (i : Name) → IsTrue (is_in_rows i) → Agree (names_within across s) all → row_names s.row i ≡ all i
seen_row all across s (n.Reg i) t h = h (n.Reg i) (and_self (nat_lt i 8) t)
seen_row all across s (n.Flag i) t h = h (n.Flag i) (and_self (nat_lt i 5) t)
seen_row all across s n.Fs t h = absurd (false≢true t)
seen_row all across s n.Gs t h = absurd (false≢true t)
seen_row all across s (n.T i) t h = absurd (false≢true t)
seen_row all across s (n.B i) t h = absurd (false≢true t)
seen_row all across s (n.S i) t h = absurd (false≢true t)

-- what is live at the beginning of a block was added to its row
pub grows_by : (old new : Live) (b : Block) (k : ℕ) (r more : Row) (s : Seen) → k < length old.rows.items → slice_get old.rows.items k ≡ Some r → new.rows.items ≡ set old.rows.items k more
    → Agree (names_within (across_of old) s) (live_in b (live_of old)) → SameRow (row_names more) (λ i. row_names r i || row_names s.row i) → Grows b k old new
grows_by old new b k r more s inside at set_is before each = record {
  row = λ i t.
      row_live new k more i t (ap (λ rows. slice_get rows k) set_is ∙ set_same old.rows.items k more inside) ∙ each i t ∙ ap (λ x. x || row_names s.row i) (sym (row_live old k r i t at))
      ∙ ap (λ x. live_of old k i || x) (seen_row (live_in b (live_of old)) (across_of old) s i t before);
  others = λ j d. ap (λ rows. slice_get rows j) set_is ∙ set_others old.rows.items k j more d;
}

-- ---- a flow without what nobody sees

stmt_rule : (ss : List Stmt) (j : ℕ) (s : Stmt) → slice_get ss j ≡ Some s → IsTrue (are_flow_stmts ss) → IsTrue (is_flow_stmt s)
stmt_rule [] j s e t = absurd (let z : ⊥ = cc in z)
stmt_rule (x ∷ ss) zero s e t =
    let i : x ≡ s = cc in
    ap is_flow_stmt (sym i) ∙ (both_true (is_flow_stmt x) (are_flow_stmts ss) t).0
stmt_rule (x ∷ ss) (suc j) s e t = stmt_rule ss j s e (both_true (is_flow_stmt x) (are_flow_stmts ss) t).1

-- each flag that a Set assigns is read after it, if each flag that is live has a reason
pub flags_are_read : (f : Flow) (live : ℕ → NameSet) → IsGiven f → HaveReasons f.blocks live → FlagsAreRead (cleaned_flow live f)
flags_are_read f live given reasons i j k c e at s =
    let p = unmapped (cleaned_block live) f.blocks i c at in
    let b = p.0 in
    let after = live_at b.end live in
    let is_set : slice_get (cleaned b.stmts after) j ≡ Some (stmt.Set (n.Flag k) e) = ap (λ (x : Block). slice_get x.stmts j) (sym p.2) ∙ s in
    let rule : IsTrue (is_flow_stmt (stmt.Set (n.Flag k) e)) = stmt_rule (cleaned b.stmts after) j (stmt.Set (n.Flag k) e) is_set (stmts_rule b.stmts after (block_rule f.blocks i b p.1 given.rule)) in
    let exists : IsTrue (is_in_rows (n.Flag k)) = (both_true (nat_lt k 5) true (both_true (is_flow_target (n.Flag k)) (is_flow_word e) rule).0).0 in
    let kept = kept_set b.stmts after j (n.Flag k) e is_set in
    subst (λ (x : Block). IsReadFrom (map (cleaned_block live) f.blocks) (n.Flag k) (drop (suc j) x.stmts) x.end) (sym p.2)
    (subst (λ ss. IsReadFrom (map (cleaned_block live) f.blocks) (n.Flag k) ss b.end) (sym kept.next)
    (from_stmts f.blocks live live (λ m a t. t) reasons k exists b kept.rest (λ a is_node. given.checked.nodes_inside i a b p.1 is_node) kept.live))
