-- Which block follows a block, as it is found.
use Rattle.std.proofs.Common.{◌≡◌, ◌≢◌, ◌⊎◌, inl, inr, ⊎_elim, ℕ, zero, suc, ◌+◌, ◌<◌, ◌≤◌, Bool, true, false, ◌↔◌, List, [], ◌∷◌, ◌++◌, length, get_or, set, Option, Some, None, refl, sym, ap, ◌∙◌, subst, arith}
use Rattle.std.specs.Prelude.{slice_index_or}
use Rattle.std.proofs.lemmas.Bool.{cases_lt, cases_eq}
use Rattle.std.proofs.lemmas.List.{get_or-set_same, get_or-set_other, get_or_past, length-set}
use Rattle.std.proofs.lemmas.Option.{slice_get-get_or, get_or_from_slice_get}
use Rattle.graph_order.specs.Graph.{IsMarked}
use Rattle.micro_ir.specs.declared.flow.Block.{Block}
use Rattle.micro_ir.specs.declared.flow.Flow.{Flow}
use Rattle.flow_stretches.specs.declared.comers.Comers.{Comers}
use Rattle.flow_stretches.specs.declared.comers.Comers.TheVariants as comers
use Rattle.flow_stretches.specs.Ends.{only_target}
use Rattle.flow_stretches.specs.Joined.{graph_of, empty_block, block_at, IsFollowed}
use Rattle.flow_stretches.specs.Known.{comers_at, AreComers, ComesTo, IsKnown, NextIn}
use Rattle.flow_stretches.proofs.Reached.{follows_edge}

-- an answer tells which block follows one
abbrev pub TellsNext : Flow → ℕ → Option ℕ → Type 0
TellsNext f k o = (m : ℕ) → ((o ≡ Some m) ↔ IsFollowed f k m)

none-some : (m : ℕ) → ◌≡◌ {A = Option ℕ} None (Some m) → ⊥
none-some m e = cc

not_both : (marks : List Bool) (n : ℕ) → slice_index_or marks n false ≡ false → IsMarked marks n → ⊥
not_both marks n e m = let z : true ≡ false = sym m ∙ e in cc

pub next_unreached : (f : Flow) (reached : List Bool) (list : List Comers) (k : ℕ) → IsKnown f reached list → slice_index_or reached k false ≡ false → TellsNext f k None
next_unreached f reached list k known e m = (λ n. absurd (none-some m n), λ h. absurd (not_both reached k e ((known.exact k).1 h.reached)))

pub next_untold : (f : Flow) (k : ℕ) → only_target (block_at f.blocks k).end ≡ None → TellsNext f k None
next_untold f k e m = (λ n. absurd (none-some m n), λ h. absurd (none-some m (sym e ∙ h.only)))

pub next_found : (f : Flow) (reached : List Bool) (list : List Comers) (k t : ℕ) → IsKnown f reached list → IsMarked reached k → only_target (block_at f.blocks k).end ≡ Some t → t ≢ f.entry → comers_at list t ≡ comers.One k → TellsNext f k (Some t)
next_found f reached list k t known marked only inner one m = (
  λ e.
      let s : t ≡ m = cc in
      let come : AreComers (ComesTo (graph_of f) t) (comers.One k) = subst (AreComers (ComesTo (graph_of f) t)) one (known.comes t) in
      subst (IsFollowed f k) s (record {
        reached = (known.exact k).0 marked;
        only = only;
        inner = inner;
        alone = λ j r h. come.1 j (record { reached = r; edge = h });
      }),
  λ h. sym only ∙ h.only,
)

pub next_entry : (f : Flow) (k t : ℕ) → only_target (block_at f.blocks k).end ≡ Some t → t ≡ f.entry → TellsNext f k None
next_entry f k t only e m = (λ n. absurd (none-some m n), λ h. absurd (h.inner (let s : t ≡ m = let o : Some t ≡ Some m = sym only ∙ h.only in cc in sym s ∙ e)))

alone_is_one : (f : Flow) (k m : ℕ) (c : Comers) → IsFollowed f k m → AreComers (ComesTo (graph_of f) m) c → c ≡ comers.One k
alone_is_one f k m comers.Nobody h come = absurd (come k (record { reached = h.reached; edge = follows_edge f k m h }))
alone_is_one f k m (comers.One j) h come = ap (λ i. comers.One i) (sym (come.1 k (record { reached = h.reached; edge = follows_edge f k m h })))
alone_is_one f k m comers.Several h come = absurd (come.2 (h.alone come.0 come.3.reached come.3.edge ∙ sym (h.alone come.1 come.4.reached come.4.edge)))

pub next_shared : (f : Flow) (reached : List Bool) (list : List Comers) (k t : ℕ) → IsKnown f reached list → only_target (block_at f.blocks k).end ≡ Some t → (comers_at list t ≡ comers.One k → ⊥) → TellsNext f k None
next_shared f reached list k t known only many m = (
  λ n. absurd (none-some m n),
  λ h.
      let s : t ≡ m = let o : Some t ≡ Some m = sym only ∙ h.only in cc in
      absurd (many (alone_is_one f k t (comers_at list t) (subst (IsFollowed f k) (sym s) h) (known.comes t))),
)

pub block_here : (blocks : List Block) (k : ℕ) (d : Block) → k < length blocks → block_at blocks k ≡ get_or blocks k d
block_here blocks k d h = get_or_from_slice_get blocks k (get_or blocks k d) empty_block (slice_get-get_or blocks k d h)

-- ---- all blocks

-- for each block below one the one that follows it
pub record NextUpTo (f : Flow) (k : ℕ) (next : List (Option ℕ)) : Type 0 where
  pub count : length next ≡ k
  pub each : (a : ℕ) → a < k → TellsNext f a (slice_index_or next a None)

pub next_none : (f : Flow) → NextUpTo f 0 []
next_none f = record { count = refl; each = λ a h. absurd (let z : ⊥ = omega (arith, h) in z) }

get_left : (xs ys : List (Option ℕ)) (i : ℕ) → i < length xs → slice_index_or (xs ++ ys) i None ≡ slice_index_or xs i None
get_left [] ys i h = absurd (let z : ⊥ = omega (arith, h) in z)
get_left (x ∷ xs) ys zero h = refl
get_left (x ∷ xs) ys (suc i) h = get_left xs ys i (omega (arith, h))

get_last : (xs : List (Option ℕ)) (o : Option ℕ) → slice_index_or (xs ++ o ∷ []) (length xs) None ≡ o
get_last [] o = refl
get_last (x ∷ xs) o = get_last xs o

pushed_count : (xs : List (Option ℕ)) (o : Option ℕ) → length (xs ++ o ∷ []) ≡ length xs + 1
pushed_count [] o = refl
pushed_count (x ∷ xs) o = omega (arith, pushed_count xs o)

pub next_more : (f : Flow) (k : ℕ) (next : List (Option ℕ)) (o : Option ℕ) → NextUpTo f k next → TellsNext f k o → NextUpTo f (k + 1) (next ++ o ∷ [])
next_more f k next o up tells = record {
  count = omega (arith, pushed_count next o, up.count);
  each = λ a h. elim (cases_lt a k) [
    | inl l ↦ subst (TellsNext f a) (sym (get_left next (o ∷ []) a (omega (arith, l, up.count)))) (up.each a l)
    | inr g ↦
        let s : a ≡ length next = omega (arith, g, h, up.count) in
        let here : slice_index_or (next ++ o ∷ []) a None ≡ o = ap (λ i. slice_index_or (next ++ o ∷ []) i None) s ∙ get_last next o in
        let t : k ≡ a = omega (arith, s, up.count) in
        subst (TellsNext f a) (sym here) (subst (λ i. TellsNext f i o) t tells)
  ];
}

follows_inside : (f : Flow) (a m : ℕ) → length f.blocks ≤ a → IsFollowed f a m → ⊥
follows_inside f a m h g = none-some m (sym (ap (λ (b : Block). only_target b.end) (get_or_past f.blocks a empty_block h)) ∙ g.only)

pub next_all : (f : Flow) (k : ℕ) (next : List (Option ℕ)) → length f.blocks ≤ k → NextUpTo f k next → (a m : ℕ) → (NextIn next a m ↔ IsFollowed f a m)
next_all f k next full up a m = elim (cases_lt a k) [
  | inl l ↦ up.each a l m
  | inr g ↦ (
    λ e. absurd (none-some m (sym (get_or_past next a None (omega (arith, g, up.count))) ∙ e)),
    λ h. absurd (follows_inside f a m (omega (arith, g, full)) h),
  )
]

-- ---- first nodes

-- marks of the reached nodes that are after none of the first ones
pub record FirstsUpTo (next : List (Option ℕ)) (i : ℕ) (reached firsts : List Bool) : Type 0 where
  pub count : length firsts ≡ length reached
  pub stays : (n : ℕ) → IsMarked firsts n → IsMarked reached n
  pub first : (k n : ℕ) → k < i → IsMarked firsts n → NextIn next k n → ⊥
  pub others : (n : ℕ) → IsMarked reached n → IsMarked firsts n ⊎ ((k : ℕ) × NextIn next k n)

pub firsts_none : (next : List (Option ℕ)) (reached : List Bool) → FirstsUpTo next 0 reached reached
firsts_none next reached = record { count = refl; stays = λ n m. m; first = λ k n h m e. omega (arith, h); others = λ n m. inl m }

unmarked : (marks : List Bool) (m : ℕ) → m < length marks → IsMarked (set marks m false) m → ⊥
unmarked marks m h e = let z : true ≡ false = sym e ∙ get_or-set_same marks m false false h in let y : ⊥ = cc in y

pub firsts_more : (next : List (Option ℕ)) (i m : ℕ) (reached firsts : List Bool) → NextIn next i m → m < length firsts → FirstsUpTo next i reached firsts → FirstsUpTo next (i + 1) reached (set firsts m false)
firsts_more next i m reached firsts e h up = record {
  count = length-set firsts m false ∙ up.count;
  stays = λ n g. elim (cases_eq n m) [
    | inl s ↦ absurd (unmarked firsts m h (subst (IsMarked (set firsts m false)) s g))
    | inr d ↦ up.stays n (sym (get_or-set_other firsts m n false false d) ∙ g)
  ];
  first = λ k n l g a. elim (cases_eq n m) [
    | inl s ↦ absurd (unmarked firsts m h (subst (IsMarked (set firsts m false)) s g))
    | inr d ↦
        elim (cases_lt k i) [
          | inl b ↦ up.first k n b (sym (get_or-set_other firsts m n false false d) ∙ g) a
          | inr c ↦
              let t : k ≡ i = omega (arith, l, c) in
              let o : Some n ≡ Some m = sym a ∙ ap (λ j. slice_index_or next j None) t ∙ e in
              d (let z : n ≡ m = cc in z)
        ]
  ];
  others = λ n g. elim (cases_eq n m) [
    | inl s ↦ inr (i, subst (NextIn next i) (sym s) e)
    | inr d ↦ ⊎_elim (λ a. inl (get_or-set_other firsts m n false false d ∙ a)) inr (up.others n g)
  ];
}

pub firsts_skip : (next : List (Option ℕ)) (i : ℕ) (reached firsts : List Bool) → slice_index_or next i None ≡ None → FirstsUpTo next i reached firsts → FirstsUpTo next (i + 1) reached firsts
firsts_skip next i reached firsts e up = record {
  count = up.count;
  stays = up.stays;
  first = λ k n l g a. elim (cases_lt k i) [
    | inl b ↦ up.first k n b g a
    | inr c ↦
        let t : k ≡ i = omega (arith, l, c) in
        none-some n (sym e ∙ ap (λ j. slice_index_or next j None) (sym t) ∙ a)
  ];
  others = up.others;
}

pub firsts_all : (next : List (Option ℕ)) (i : ℕ) (reached firsts : List Bool) → length next ≤ i → FirstsUpTo next i reached firsts → (k n : ℕ) → IsMarked firsts n → NextIn next k n → ⊥
firsts_all next i reached firsts full up k n g a = elim (cases_lt k i) [
  | inl b ↦ up.first k n b g a
  | inr c ↦ none-some n (sym (get_or_past next k None (omega (arith, c, full))) ∙ a)
]
