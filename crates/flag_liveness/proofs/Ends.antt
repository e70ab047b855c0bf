-- What is live at an end.
use Rattle.std.proofs.Common.{◌≡◌, ℕ, nat_lt, Bool, true, false, not, ◌||◌, ◌&&◌, List, [], ◌∷◌, map, refl, sym, ap, subst, ◌∙◌}
use Rattle.std.proofs.lemmas.Bool.{false≢true}
use Rattle.std.specs.Prelude.{IsTrue, ◌↔◌}
use Rattle.std.specs.List.{list_any}
use Rattle.dream_words.specs.declared.machine.Name.{Name}
use Rattle.dream_words.specs.declared.machine.Name.TheVariants as n
use Rattle.c_syntax.specs.declared.syntax.CExpr.{CExpr}
use Rattle.c_syntax.specs.declared.syntax.CCond.{CCond}
use Rattle.micro_ir.specs.declared.flow.Case.{Case}
use Rattle.micro_ir.specs.declared.flow.End.{End as BlockEnd}
use Rattle.micro_ir.specs.declared.flow.End.TheVariants as end
use Rattle.flow_passes.specs.Uses.{NameSet, is_register, word_reads, cond_reads, end_reads}
use Rattle.flag_liveness.specs.declared.row.Row.{Row}
use Rattle.flag_liveness.specs.declared.seen.Seen.{Seen}
use Rattle.flag_liveness.specs.Before.{live_at}
use Rattle.flag_liveness.specs.Rows.{row_names, SameRow}
use Rattle.flag_liveness.specs.Within.{row_or_temps, names_within, Agree, Adds}

and_true : (b : Bool) → IsTrue (b && true) → IsTrue b
and_true true t = t
and_true false t = t

-- what is live where a row is given
abbrev pub IsMade : Row → Bool → (ℕ → Bool) → Seen → Type 0
IsMade row goes across s = Agree (names_within across s) (row_or_temps (row_names row) (λ k. goes && across k))

-- the registers and flags by a row, and the temporaries
pub made_of : (row : Row) (goes : Bool) (across : ℕ → Bool) (s : Seen) (all : NameSet) → IsMade row goes across s → SameRow (row_names row) all → ((k : ℕ) → all (n.T k) ≡ (goes && across k)) → Agree (names_within across s) all
made_of row goes across s all h r g (n.Reg k) t = h (n.Reg k) t ∙ r (n.Reg k) (and_true (nat_lt k 8) t)
made_of row goes across s all h r g (n.Flag k) t = h (n.Flag k) t ∙ r (n.Flag k) (and_true (nat_lt k 5) t)
made_of row goes across s all h r g (n.T k) t = h (n.T k) t ∙ sym (g k)
made_of row goes across s all h r g n.Fs t = absurd (false≢true t)
made_of row goes across s all h r g n.Gs t = absurd (false≢true t)
made_of row goes across s all h r g (n.B k) t = absurd (false≢true t)
made_of row goes across s all h r g (n.S k) t = absurd (false≢true t)

or_false : (b : Bool) → (b || false) ≡ b
or_false true = refl
or_false false = refl

or_self : (b : Bool) → (b || (b || false)) ≡ b
or_self true = refl
or_self false = refl

none_of : (xs : List ℕ) → list_any (λ k. false) xs ≡ false
none_of [] = refl
none_of (x ∷ xs) = none_of xs

or_same : (b : Bool) (xs : List ℕ) → (b || list_any (λ k. b) xs) ≡ b
or_same true xs = refl
or_same false xs = none_of xs

-- what is so of any case or none is so of one, where there is a case
some_case : (e b : Bool) (cases : List Case) → (IsTrue e ↔ (cases ≡ [])) → list_any (λ k. b) (map (λ (c : Case). c.to) cases) ≡ (not e && b)
some_case true b [] h = refl
some_case false b [] h = absurd (false≢true (h.1 refl))
some_case true b (c ∷ cases) h = let e : c ∷ cases ≡ [] = h.0 refl in cc
some_case false b (c ∷ cases) h = or_same b (map (λ (c : Case). c.to) cases)

adds_agree : (r all : NameSet) (across : ℕ → Bool) (x y : Seen) → Adds r x y → Agree (names_within across x) all → Agree (names_within across y) (λ n. r n || all n)
adds_agree r all across x y p h = λ n t. p.names across n t ∙ ap (λ b. r n || b) (h n t)

module _ (across : ℕ → Bool) (row : ℕ → NameSet) where
  lives : ℕ → NameSet
  lives k = row_or_temps (row k) across

  lives_row : (k : ℕ) → SameRow (row k) (row_or_temps (row k) across)
  lives_row k (n.Reg i) t = refl
  lives_row k (n.Flag i) t = refl
  lives_row k n.Fs t = refl
  lives_row k n.Gs t = refl
  lives_row k (n.T i) t = absurd (false≢true t)
  lives_row k (n.B i) t = refl
  lives_row k (n.S i) t = refl

  pub at_go : (a : ℕ) (e : BlockEnd) (r : Row) (s : Seen) → e ≡ end.Go a → ((n : Name) → row_names r n ≡ row a n) → IsMade r true across s → Agree (names_within across s) (live_at e (λ k. row_or_temps (row k) across))
  at_go a e r s i h m =
      subst (λ (k : BlockEnd). Agree (names_within across s) (live_at k (λ k. row_or_temps (row k) across))) (sym i)
      (made_of r true across s (live_at (end.Go a) (λ k. row_or_temps (row k) across)) m (λ n t. h n ∙ lives_row a n t ∙ sym (or_false _)) (λ k. or_false (across k)))

  pub at_branch : (t : CCond) (a b : ℕ) (e : BlockEnd) (r : Row) (x s : Seen) → e ≡ end.Branch t a b → SameRow (row_names r) (λ n. row_or_temps (row a) across n || row_or_temps (row b) across n) → IsMade r true across x → Adds (cond_reads t) x s
      → Agree (names_within across s) (live_at e (λ k. row_or_temps (row k) across))
  at_branch t a b e r x s i h m p =
      subst (λ (k : BlockEnd). Agree (names_within across s) (live_at k (λ k. row_or_temps (row k) across))) (sym i)
      (adds_agree (cond_reads t) (λ n. row_or_temps (row a) across n || (row_or_temps (row b) across n || false)) across x s p
      (made_of r true across x (λ n. row_or_temps (row a) across n || (row_or_temps (row b) across n || false)) m
      (λ n k. h n k ∙ ap (λ b. row_or_temps (row a) across n || b) (sym (or_false (row_or_temps (row b) across n)))) (λ k. or_self (across k))))

  pub at_switch : (w : CExpr) (cases others : List Case) (e : BlockEnd) (r : Row) (empty : Bool) (x s : Seen) → e ≡ end.Switch w cases → others ≡ cases
      → SameRow (row_names r) (λ n. list_any (λ k. row_or_temps (row k) across n) (map (λ (c : Case). c.to) others))
      → (IsTrue empty ↔ (cases ≡ [])) → IsMade r (not empty) across x → Adds (word_reads w) x s → Agree (names_within across s) (live_at e (λ k. row_or_temps (row k) across))
  at_switch w cases others e r empty x s i o h q m p =
      subst (λ (k : BlockEnd). Agree (names_within across s) (live_at k (λ k. row_or_temps (row k) across))) (sym i)
      (adds_agree (word_reads w) (λ n. list_any (λ k. row_or_temps (row k) across n) (map (λ (c : Case). c.to) cases)) across x s p
      (made_of r (not empty) across x (λ n. list_any (λ k. row_or_temps (row k) across n) (map (λ (c : Case). c.to) cases)) m
      (subst (λ (cs : List Case). SameRow (row_names r) (λ n. list_any (λ k. row_or_temps (row k) across n) (map (λ (c : Case). c.to) cs))) o h) (λ k. some_case empty (across k) cases q)))

  pub at_return : (e : BlockEnd) (r : Row) (s : Seen) → e ≡ end.Return → SameRow (row_names r) is_register → IsMade r false across s → Agree (names_within across s) (live_at e (λ k. row_or_temps (row k) across))
  at_return e r s i h m =
      subst (λ (k : BlockEnd). Agree (names_within across s) (live_at k (λ k. row_or_temps (row k) across))) (sym i)
      (made_of r false across s (live_at end.Return (λ k. row_or_temps (row k) across)) m (λ n t. h n t ∙ sym (or_false _)) (λ k. refl))

  or_turned : (a b : Bool) → (b || a) ≡ ((a || b) || false)
  or_turned true true = refl
  or_turned true false = refl
  or_turned false true = refl
  or_turned false false = refl

  pub at_leave : (w : CExpr) (e : BlockEnd) (r : Row) (x s : Seen) → e ≡ end.Leave w → SameRow (row_names r) is_register → IsMade r false across x → Adds (word_reads w) x s → Agree (names_within across s) (live_at e (λ k. row_or_temps (row k) across))
  at_leave w e r x s i h m p =
      subst (λ (k : BlockEnd). Agree (names_within across s) (live_at k (λ k. row_or_temps (row k) across))) (sym i)
      (λ n t. adds_agree (word_reads w) is_register across x s p (made_of r false across x is_register m h (λ k. refl)) n t ∙ or_turned (is_register n) (word_reads w n))

-- ---- what an end reads

-- the registers and flags of a row
pub last_made : (e : BlockEnd) (r : Row) (s : Seen) (rows : NameSet) → SameRow (row_names r) rows → ((k : ℕ) → rows (n.T k) ≡ false) → ((across : ℕ → Bool) → IsMade r false across s) → ((k : Name) → end_reads e k ≡ rows k)
    → (across : ℕ → Bool) → Agree (names_within across s) (end_reads e)
last_made e r s rows h g m q across = λ k t. made_of r false across s rows (m across) h g k t ∙ sym (q k)

-- and of a Word or a Cond
pub last_adds : (e : BlockEnd) (r : Row) (x s : Seen) (part rows : NameSet) → SameRow (row_names r) rows → ((k : ℕ) → rows (n.T k) ≡ false) → ((across : ℕ → Bool) → IsMade r false across x) → Adds part x s → ((k : Name) → end_reads e k ≡ (part k || rows k))
    → (across : ℕ → Bool) → Agree (names_within across s) (end_reads e)
last_adds e r x s part rows h g m p q across = λ k t. adds_agree part rows across x s p (made_of r false across x rows (m across) h g) k t ∙ sym (q k)

end_reads_of : (e d : BlockEnd) (k : Name) → e ≡ d → end_reads e k ≡ end_reads d k
end_reads_of e d k i = ap (λ x. end_reads x k) i

pub last_go : (a : ℕ) (e : BlockEnd) (r : Row) (s : Seen) → e ≡ end.Go a → SameRow (row_names r) (λ n. false) → ((across : ℕ → Bool) → IsMade r false across s) → (across : ℕ → Bool) → Agree (names_within across s) (end_reads e)
last_go a e r s i h m = last_made e r s (λ n. false) h (λ k. refl) m (λ k. end_reads_of e (end.Go a) k i)

pub last_branch : (t : CCond) (a b : ℕ) (e : BlockEnd) (r : Row) (x s : Seen) → e ≡ end.Branch t a b → SameRow (row_names r) (λ n. false) → ((across : ℕ → Bool) → IsMade r false across x) → Adds (cond_reads t) x s
    → (across : ℕ → Bool) → Agree (names_within across s) (end_reads e)
last_branch t a b e r x s i h m p = last_adds e r x s (cond_reads t) (λ n. false) h (λ k. refl) m p (λ k. end_reads_of e (end.Branch t a b) k i ∙ sym (or_false (cond_reads t k)))

pub last_switch : (w : CExpr) (cases : List Case) (e : BlockEnd) (r : Row) (x s : Seen) → e ≡ end.Switch w cases → SameRow (row_names r) (λ n. false) → ((across : ℕ → Bool) → IsMade r false across x) → Adds (word_reads w) x s
    → (across : ℕ → Bool) → Agree (names_within across s) (end_reads e)
last_switch w cases e r x s i h m p = last_adds e r x s (word_reads w) (λ n. false) h (λ k. refl) m p (λ k. end_reads_of e (end.Switch w cases) k i ∙ sym (or_false (word_reads w k)))

pub last_return : (e : BlockEnd) (r : Row) (s : Seen) → e ≡ end.Return → SameRow (row_names r) is_register → ((across : ℕ → Bool) → IsMade r false across s) → (across : ℕ → Bool) → Agree (names_within across s) (end_reads e)
last_return e r s i h m = last_made e r s is_register h (λ k. refl) m (λ k. end_reads_of e end.Return k i)

or_swapped : (a b : Bool) → (a || b) ≡ (b || a)
or_swapped true true = refl
or_swapped true false = refl
or_swapped false true = refl
or_swapped false false = refl

pub last_leave : (w : CExpr) (e : BlockEnd) (r : Row) (x s : Seen) → e ≡ end.Leave w → SameRow (row_names r) is_register → ((across : ℕ → Bool) → IsMade r false across x) → Adds (word_reads w) x s → (across : ℕ → Bool) → Agree (names_within across s) (end_reads e)
last_leave w e r x s i h m p = last_adds e r x s (word_reads w) is_register h (λ k. refl) m p (λ k. end_reads_of e (end.Leave w) k i ∙ or_swapped (is_register k) (word_reads w k))
