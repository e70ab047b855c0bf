-- The renumbering gives different new names to different known names.
use Rattle.std.proofs.Common.{◌≡◌, ℕ, nat_eq, true, List, sym, ap, ◌∙◌}
use Rattle.dream_words.specs.declared.machine.Name.{Name}
use Rattle.dream_words.specs.declared.machine.Name.TheVariants as name
use Rattle.run_parts.specs.Parts.{has}
use Rattle.guarded.specs.Numbers.{Locals}
use Rattle.c_emit.specs.Emitted.{below, new_name}
use Rattle.c_emit.proofs.Local.{is_known, same_number, equal_numbers, keeps_apart}

-- two numbers with as many below them are one
numbers_apart : (ks : List ℕ) (n k : ℕ) → has ks n ≡ true → has ks k ≡ true → below ks n ≡ below ks k → n ≡ k
numbers_apart ks n k p q e = equal_numbers n k (sym (keeps_apart ks k n q p) ∙ ap (λ i. nat_eq i (below ks k)) e ∙ same_number (below ks k))

-- the numbers of equal names
same_temp : (n k : ℕ) → name.T n ≡ name.T k → n ≡ k
same_temp n k e = cc

same_bool : (n k : ℕ) → name.B n ≡ name.B k → n ≡ k
same_bool n k e = cc

same_selector : (n k : ℕ) → name.S n ≡ name.S k → n ≡ k
same_selector n k e = cc

pub apart : (l : Locals) (n k : Name) → is_known l n ≡ true → is_known l k ≡ true → new_name l n ≡ new_name l k → n ≡ k
apart l (name.Reg n) (name.Reg k) p q e = e
apart l (name.Reg n) (name.Flag k) p q e = e
apart l (name.Reg n) name.Fs p q e = e
apart l (name.Reg n) name.Gs p q e = e
apart l (name.Reg n) (name.T k) p q e = cc
apart l (name.Reg n) (name.B k) p q e = cc
apart l (name.Reg n) (name.S k) p q e = cc
apart l (name.Flag n) (name.Reg k) p q e = e
apart l (name.Flag n) (name.Flag k) p q e = e
apart l (name.Flag n) name.Fs p q e = e
apart l (name.Flag n) name.Gs p q e = e
apart l (name.Flag n) (name.T k) p q e = cc
apart l (name.Flag n) (name.B k) p q e = cc
apart l (name.Flag n) (name.S k) p q e = cc
apart l name.Fs (name.Reg k) p q e = e
apart l name.Fs (name.Flag k) p q e = e
apart l name.Fs name.Fs p q e = e
apart l name.Fs name.Gs p q e = e
apart l name.Fs (name.T k) p q e = cc
apart l name.Fs (name.B k) p q e = cc
apart l name.Fs (name.S k) p q e = cc
apart l name.Gs (name.Reg k) p q e = e
apart l name.Gs (name.Flag k) p q e = e
apart l name.Gs name.Fs p q e = e
apart l name.Gs name.Gs p q e = e
apart l name.Gs (name.T k) p q e = cc
apart l name.Gs (name.B k) p q e = cc
apart l name.Gs (name.S k) p q e = cc
apart l (name.T n) (name.Reg k) p q e = cc
apart l (name.T n) (name.Flag k) p q e = cc
apart l (name.T n) name.Fs p q e = cc
apart l (name.T n) name.Gs p q e = cc
apart l (name.T n) (name.T k) p q e = ap (λ i. name.T i) (numbers_apart l.temps n k p q (same_temp _ _ e))
apart l (name.T n) (name.B k) p q e = cc
apart l (name.T n) (name.S k) p q e = cc
apart l (name.B n) (name.Reg k) p q e = cc
apart l (name.B n) (name.Flag k) p q e = cc
apart l (name.B n) name.Fs p q e = cc
apart l (name.B n) name.Gs p q e = cc
apart l (name.B n) (name.T k) p q e = cc
apart l (name.B n) (name.B k) p q e = ap (λ i. name.B i) (numbers_apart l.bools n k p q (same_bool _ _ e))
apart l (name.B n) (name.S k) p q e = cc
apart l (name.S n) (name.Reg k) p q e = cc
apart l (name.S n) (name.Flag k) p q e = cc
apart l (name.S n) name.Fs p q e = cc
apart l (name.S n) name.Gs p q e = cc
apart l (name.S n) (name.T k) p q e = cc
apart l (name.S n) (name.B k) p q e = cc
apart l (name.S n) (name.S k) p q e = ap (λ i. name.S i) (numbers_apart l.selectors n k p q (same_selector _ _ e))
