-- Rows that grow.
use Rattle.std.proofs.Common.{◌≡◌, inl, inr, ℕ, suc, ◌+◌, ◌<◌, ◌≤◌, zero, nat_lt, Bool, true, false, not, ◌&&◌, ◌||◌, List, [], ◌∷◌, Option, length, get_or, set, Some, refl, sym, ap, subst, ◌∙◌, arith}
use Rattle.std.proofs.lemmas.Bool.{false≢true, cases_eq}
use Rattle.std.proofs.lemmas.List.Sums.{sum_by-set}
use Rattle.std.proofs.lemmas.Option.{slice_get_read}
use Rattle.std.specs.Prelude.{IsTrue, slice_get}
use Rattle.std.specs.List.{sum_by}
use Rattle.std.specs.Ordering.{nat_cmp}
use Rattle.std.specs.BTreeSet as tree
use Rattle.std.specs.BTreeSet.{BTreeSet}
use Rattle.micro_ir.specs.Rule.{is_flow_target, are_flow_stmts, are_flow_blocks}
use Rattle.dream_words.specs.declared.machine.Name.{Name}
use Rattle.dream_words.specs.declared.machine.Name.TheVariants as n
use Rattle.micro_ir.specs.declared.flow.Block.{Block}
use Rattle.flow_passes.specs.Uses.{NameSet}
use Rattle.flag_liveness.specs.declared.row.Row.{Row}
use Rattle.flag_liveness.specs.declared.seen.Seen.{Seen}
use Rattle.flag_liveness.specs.declared.live.Live.{Live}
use Rattle.flag_liveness.specs.Before.{live_in}
use Rattle.flag_liveness.specs.Rows.{row_names, is_in_rows, unset, SameRow}
use Rattle.flag_liveness.specs.Within.{row_or_temps, names_within, Agree}
use Rattle.flag_liveness.specs.Lives.{row_in, across_of, live_of}
use Rattle.flag_liveness.specs.Settled.{unset_in, IsClosedAt, AreClosed}
use Rattle.flag_liveness.specs.Reasons.{HaveReasons}
use Rattle.flag_liveness.proofs.Kept.{block_rule}

target : (b : Bool) → IsTrue b → IsTrue (b && true)
target true t = t
target false t = t

or_has : (a b c d : Bool) → a ≡ (b || c) → d ≡ true → c ≡ d → a ≡ true
or_has a true c d p q r = p
or_has a false c d p q r = p ∙ r ∙ q

shown : (b h : Bool) → b ≡ true → h ≡ true → (not b || h) ≡ true
shown true h p q = q
shown false h p q = refl

module _ (l : Live) (b : Block) (k : ℕ) (r more : Row) (s : Seen) (at : slice_get l.rows.items k ≡ Some r) (before : Agree (names_within (across_of l) s) (live_in b (live_of l)))
    (each : SameRow (row_names more) (λ i. row_names r i || row_names s.row i)) (same : more ≡ r) where
  in_row : (i : Name) → row_names r i ≡ true → row_in (slice_get l.rows.items k) i ≡ true
  in_row i t = ap (λ o. row_in o i) at ∙ t

  -- what is live at the beginning of a block whose row didn't grow is in the row
  pub no_more : IsClosedAt b l k
  no_more (n.Reg i) t h = shown (nat_lt i 8 && true) _ (target (nat_lt i 8) t) (in_row (n.Reg i) (sym (ap (λ x. row_names x (n.Reg i)) same) ∙ or_has _ (row_names r (n.Reg i)) (row_names s.row (n.Reg i)) _ (each (n.Reg i) t) h (before (n.Reg i) (target (nat_lt i 8) t))))
  no_more (n.Flag i) t h = shown (nat_lt i 5 && true) _ (target (nat_lt i 5) t) (in_row (n.Flag i) (sym (ap (λ x. row_names x (n.Flag i)) same) ∙ or_has _ (row_names r (n.Flag i)) (row_names s.row (n.Flag i)) _ (each (n.Flag i) t) h (before (n.Flag i) (target (nat_lt i 5) t))))
  no_more n.Fs t h = absurd (false≢true t)
  no_more n.Gs t h = absurd (false≢true t)
  no_more (n.T i) t h = absurd (false≢true t)
  no_more (n.B i) t h = absurd (false≢true t)
  no_more (n.S i) t h = absurd (false≢true t)

-- fewer are unset where a row has fewer
pub fewer_in : (rows : List Row) (k : ℕ) (r more : Row) → k < length rows → get_or rows k r ≡ r → unset more < unset r → sum_by unset (set rows k more) < sum_by unset rows
fewer_in rows k r more l e h =
    let sums : sum_by unset (set rows k more) + unset (get_or rows k r) ≡ sum_by unset rows + unset more = sum_by-set unset rows k more r l in
    let read : unset (get_or rows k r) ≡ unset r = ap unset e in
    omega arith

-- the sets of live names by rows and temporaries
abbrev live_by : List Row → BTreeSet ℕ → ℕ → NameSet
live_by rows temps k i = not (is_flow_target i) || row_or_temps (row_in (slice_get rows k)) (tree.contains nat_cmp temps) i

abbrev closed_by : List Row → BTreeSet ℕ → Block → ℕ → Type 0
closed_by rows temps b k = (i : Name) → IsTrue (is_in_rows i) → IsTrue (live_in b (live_by rows temps) i) → IsTrue (live_by rows temps k i)

-- the same rows and temporaries are closed alike
pub closed_same : (l m : Live) (b : Block) (k : ℕ) → m.rows.items ≡ l.rows.items → m.temps ≡ l.temps → IsClosedAt b l k → IsClosedAt b m k
closed_same l m b k e f h = subst (λ rows. closed_by rows m.temps b k) (sym e) (subst (λ temps. closed_by l.rows.items temps b k) (sym f) h)

within : (xs : List Block) (j : ℕ) (b : Block) → slice_get xs j ≡ Some b → j < length xs
within [] j b e = absurd (let z : ⊥ = cc in z)
within (x ∷ xs) zero b e = omega arith
within (x ∷ xs) (suc j) b e = let h : j < length xs = within xs j b e in omega arith

-- The rows of the blocks from a number on were looked at.
pub record Grown (blocks : List Block) (first now : Live) (more : Bool) (k : ℕ) : Type 0 where
  pub inside : k ≤ length blocks
  pub size : length now.rows.items ≡ length blocks
  pub temps : now.temps ≡ first.temps
  pub less : unset_in now ≤ unset_in first
  pub fewer : more ≡ true → unset_in now < unset_in first
  pub reasons : HaveReasons blocks (live_of now)
  pub closed : more ≡ false → (j : ℕ) (b : Block) → k ≤ j → slice_get blocks j ≡ Some b → IsClosedAt b now j

pub grown_none : (blocks : List Block) (l : Live) (k : ℕ) → length l.rows.items ≡ length blocks → k ≡ length blocks → HaveReasons blocks (live_of l) → Grown blocks l l false k
grown_none blocks l k e f a = record {
  inside = omega arith;
  size = e;
  temps = refl;
  less = omega arith;
  fewer = λ q. absurd (false≢true q);
  reasons = a;
  closed = λ q j b i h. let w : j < length blocks = within blocks j b h in absurd (omega arith);
}

-- a row grew
pub grown_yes : (blocks : List Block) (first old new : Live) (was : Bool) (k j : ℕ) → Grown blocks first old was k → k ≡ suc j → new.temps ≡ old.temps → length new.rows.items ≡ length old.rows.items → unset_in new < unset_in old → HaveReasons blocks (live_of new) → Grown blocks first new true j
grown_yes blocks first old new was k j h e t z u a =
    let inside : k ≤ length blocks = h.inside in
    let less : unset_in old ≤ unset_in first = h.less in
    record {
      inside = omega arith;
      size = z ∙ h.size;
      temps = t ∙ h.temps;
      less = omega arith;
      fewer = λ q. omega arith;
      reasons = a;
      closed = λ q. absurd (false≢true (sym q));
    }

some_same : (x b : Block) (o : Option Block) → o ≡ Some x → o ≡ Some b → b ≡ x
some_same x b o p q = cc

-- no row grew
pub grown_no : (blocks : List Block) (first old new : Live) (was : Bool) (k j : ℕ) (b : Block) → Grown blocks first old was k → k ≡ suc j → slice_get blocks j ≡ Some b → new.temps ≡ old.temps → length new.rows.items ≡ length old.rows.items → new.rows.items ≡ old.rows.items
    → IsClosedAt b old j → HaveReasons blocks (live_of new) → Grown blocks first new was j
grown_no blocks first old new was k j b h e at t z r c a =
    let inside : k ≤ length blocks = h.inside in
    let less : unset_in old ≤ unset_in first = h.less in
    let same : unset_in new ≡ unset_in old = ap (sum_by unset) r in
    record {
      inside = omega arith;
      size = z ∙ h.size;
      temps = t ∙ h.temps;
      less = omega arith;
      fewer = λ q. let f : unset_in old < unset_in first = h.fewer q in omega arith;
      reasons = a;
      closed = λ q i x l s. closed_same old new x i r t (elim (cases_eq i j) [
        | inl y ↦ subst (λ i. IsClosedAt x old i) (sym y) (subst (λ x. IsClosedAt x old j) (some_same x b (slice_get blocks j) (ap (slice_get blocks) (sym y) ∙ s) at) c)
        | inr y ↦ h.closed q i x (omega arith) s
      ]);
    }

pub grown_all : (blocks : List Block) (first now : Live) (more : Bool) (k : ℕ) → Grown blocks first now more k → k ≡ 0 → more ≡ false → AreClosed blocks now
grown_all blocks first now more k h e q = λ j b s. h.closed q j b (omega arith) s

-- the block at a place keeps the rule
pub item_rule : (bs : List Block) (k : ℕ) (b : Block) → IsTrue (are_flow_blocks bs) → k < length bs → b ≡ get_or bs k b → IsTrue (are_flow_stmts b.stmts)
item_rule bs k b t l e = block_rule bs k b (slice_get_read bs (length bs) k b refl l e) t

-- a row was looked at
pub grown_step : (blocks : List Block) (first old new : Live) (was grew more : Bool) (k j : ℕ) (b : Block) → Grown blocks first old was k → k ≡ suc j → slice_get blocks j ≡ Some b → new.temps ≡ old.temps → length new.rows.items ≡ length old.rows.items
    → (grew ≡ false → new.rows.items ≡ old.rows.items) → (grew ≡ true → unset_in new < unset_in old) → (grew ≡ false → IsClosedAt b old j) → HaveReasons blocks (live_of new) → more ≡ (was || grew) → Grown blocks first new more j
grown_step blocks first old new was true more k j b h e at t z r f c a m = subst (λ x. Grown blocks first new x j) (sym (m ∙ or_true was)) (grown_yes blocks first old new was k j h e t z (f refl) a) where
  or_true : (x : Bool) → (x || true) ≡ true
  or_true true = refl
  or_true false = refl
grown_step blocks first old new was false more k j b h e at t z r f c a m = subst (λ x. Grown blocks first new x j) (sym (m ∙ or_false was)) (grown_no blocks first old new was k j b h e at t z (r refl) (c refl) a) where
  or_false : (x : Bool) → (x || false) ≡ x
  or_false true = refl
  or_false false = refl
