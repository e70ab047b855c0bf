-- The text of a function, piece by piece, and what a page shows after it.
use Rattle.std.proofs.Common.{◌≡◌, ℕ, suc, ◌+◌, ◌-◌, ◌^◌, ◌<◌, min, List, [], ◌∷◌, ◌++◌, length, map, Some, refl, ap, sym, ◌∙◌, arith}
use Rattle.std.specs.Prelude.{codes}
use Rattle.std.proofs.lemmas.List.{take_all}
use Rattle.dream_words.specs.declared.machine.Name.{Name}
use Rattle.dream_words.specs.declared.machine.Name.TheVariants as name
use Rattle.c_syntax.specs.declared.syntax.CStmt.{CStmt}
use Rattle.c_syntax.specs.declared.syntax.CFun.{CFun}
use Rattle.c_syntax.specs.Spelling.{decimal, name_text, function_text}
use Rattle.c_syntax.specs.Text.{Text, line, all, stmt_text, stmts_text, decls_text, canonical_text}
use Rattle.c_print.specs.Page.{Shown, puts, keeping_page, counting_page}
use Rattle.c_print.proofs.Shows.{then, puts-counting, puts-keeping}

-- one declaration more
pub decl_more : (kind : ℕ → Name) (letter : Text) (n : ℕ) (p s t u q : Shown) → name_text (kind n) ≡ letter ++ decimal n
    → s ≡ puts p (decls_text kind n) → t ≡ puts s (codes "  uint32_t ") → u ≡ puts t (letter ++ decimal n) → q ≡ puts u (codes " = 0u;\n") → q ≡ puts p (decls_text kind (n + 1))
decl_more kind letter n p s t u q named d e f g =
    let after : suc n ≡ n + 1 = omega arith in
    let declared : puts u (codes " = 0u;") ≡ puts s (codes "  uint32_t " ++ name_text (kind n) ++ codes " = 0u;") =
    then s u (puts u (codes " = 0u;")) (codes "  uint32_t " ++ name_text (kind n)) (codes " = 0u;") (then s t u (codes "  uint32_t ") (name_text (kind n)) e (f ∙ ap (puts t) (sym named))) refl in
    then p s q (decls_text kind n) (line 1 (codes "uint32_t " ++ name_text (kind n) ++ codes " = 0u;")) d
    (then s (puts u (codes " = 0u;")) q (codes "  uint32_t " ++ name_text (kind n) ++ codes " = 0u;") (codes "\n") declared g)
    ∙ ap (λ k. puts p (decls_text kind k)) after

-- statements one after another
stmts_are : (ss : List CStmt) (level : ℕ) → all (map stmt_text ss) level ≡ stmts_text ss level
stmts_are [] level = refl
stmts_are (s ∷ ss) level = ap (λ t. stmt_text s level ++ t) (stmts_are ss level)

-- a function
pub put_whole : (f : CFun) (a b c d e g h i j : Shown) → b ≡ puts a (codes "#include \"dream386.h\"\n\nvoid ") → c ≡ puts b (function_text f.address) → d ≡ puts c (codes "(void)\n{\n")
    → e ≡ puts d (decls_text name.T f.temps) → g ≡ puts e (decls_text name.B f.bools) → h ≡ puts g (decls_text name.S f.selectors) → i ≡ puts h (all (map stmt_text f.body) 1) → j ≡ puts i (codes "}\n")
    → j ≡ puts a (canonical_text f)
put_whole f a b c d e g h i j pb pc pd pe pg ph pi pj =
    let head = codes "#include \"dream386.h\"\n\nvoid " ++ function_text f.address ++ codes "(void)\n{\n" in
    let temps = decls_text name.T f.temps in
    let bools = decls_text name.B f.bools in
    let selectors = decls_text name.S f.selectors in
    let body = stmts_text f.body 1 in
    then a i j (head ++ temps ++ bools ++ selectors ++ body) (codes "}\n")
    (then a h i (head ++ temps ++ bools ++ selectors) body
    (then a g h (head ++ temps ++ bools) selectors
    (then a e g (head ++ temps) bools
    (then a d e head temps (then a c d (codes "#include \"dream386.h\"\n\nvoid " ++ function_text f.address) (codes "(void)\n{\n") (then a b c (codes "#include \"dream386.h\"\n\nvoid ") (function_text f.address) pb pc) pd) pe) pg) ph)
    (pi ∙ ap (puts h) (stmts_are f.body 1))) pj

-- the count of a page that only counts
pub counts_all : (t : Text) (s p : Shown) (n : ℕ) → s ≡ counting_page → p ≡ puts s t → n ≡ p.count → n ≡ min (length t) (2 ^ 64 - 1)
counts_all t s p n e f g =
    g ∙ ap (λ (q : Shown). q.count) (f ∙ ap (λ q. puts q t) e ∙ puts-counting 0 0 t (omega arith)) ∙ ap (λ k. min k (2 ^ 64 - 1)) (let z : 0 + length t ≡ length t = omega arith in z)

-- the bytes of a page that has room for all of them
pub keeps_all : (t : Text) (s p : Shown) (n : ℕ) → n ≡ min (length t) (2 ^ 64 - 1) → n < 2 ^ 63 → s ≡ keeping_page n → p ≡ puts s t → p.kept ≡ Some t
keeps_all t s p n e l f g =
    ap (λ (q : Shown). q.kept) (g ∙ ap (λ q. puts q t) f ∙ puts-keeping 0 n n [] t (omega arith) (omega arith)) ∙ ap Some (take_all n t (omega (arith, e, l)))
