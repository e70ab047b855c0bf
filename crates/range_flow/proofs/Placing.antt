-- What is made for one place more.
use Rattle.std.proofs.Common.{◌≡◌, ℕ, ◌+◌, ◌<◌, List, [], ◌∷◌, ◌++◌, length, map, take, get_or, sym, ap, ◌∙◌, arith, append_assoc}
use Rattle.std.proofs.lemmas.List.{map-append, take_more}
use Rattle.range_flow.specs.declared.lifted.Lifted.{Lifted}
use Rattle.range_flow.specs.Nodes.{piece_of, leave_piece, total_of}

-- a list that is mapped as far as another one goes, with one element more
pub mapped_more : {A B C : Type 0} (f : A → C) (g : B → C) (all new : List A) (x : A) (front : List C) (ys : List B) (i : ℕ) (d : B)
    → i < length ys → new ≡ all ++ x ∷ [] → map f all ≡ front ++ map g (take i ys) → f x ≡ g (get_or ys i d) → map f new ≡ front ++ map g (take (i + 1) ys)
mapped_more f g all new x front ys i d lt e h fx =
    ap (map f) e ∙ map-append f all (x ∷ []) ∙ ap (λ l. l ++ f x ∷ []) h ∙ append_assoc front (map g (take i ys)) (f x ∷ [])
    ∙ ap (λ y. front ++ (map g (take i ys) ++ y ∷ [])) fx ∙ ap (λ l. front ++ l) (sym (map-append g (take i ys) (get_or ys i d ∷ [])))
    ∙ ap (λ l. front ++ map g l) (sym (take_more ys i d lt))

total-append : (ls : List Lifted) (l : Lifted) → total_of (ls ++ l ∷ []) ≡ total_of ls + length l.blocks.items
total-append [] l = let e : length l.blocks.items + 0 ≡ 0 + length l.blocks.items = omega arith in e
total-append (x ∷ ls) l =
    let h = total-append ls l in
    let e : length x.blocks.items + (total_of ls + length l.blocks.items) ≡ length x.blocks.items + total_of ls + length l.blocks.items = omega arith in
    ap (λ n. length x.blocks.items + n) h ∙ e

-- one that leaves has one block
pub leave_more : (all new : List Lifted) (l : Lifted) (a n : ℕ) → new ≡ all ++ l ∷ [] → piece_of l ≡ leave_piece a → total_of all ≡ n → total_of new ≡ n + 1
leave_more all new l a n e p h = ap total_of e ∙ total-append all l ∙ ap (λ q. total_of all + length q.blocks) p ∙ ap (λ k. k + 1) h

-- the same, where the elements are those of the other list
pub mapped_on : {A C : Type 0} (f : A → C) (all new : List A) (x : A) (ys : List C) (i : ℕ) (d : C)
    → i < length ys → new ≡ all ++ x ∷ [] → map f all ≡ take i ys → f x ≡ get_or ys i d → map f new ≡ take (i + 1) ys
mapped_on f all new x ys i d lt e h fx =
    ap (map f) e ∙ map-append f all (x ∷ []) ∙ ap (λ l. l ++ f x ∷ []) h ∙ ap (λ y. take i ys ++ y ∷ []) fx ∙ sym (take_more ys i d lt)
