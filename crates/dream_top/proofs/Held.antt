-- What is said of the bytes that were taken is said of those that are held.
use Rattle.std.proofs.Common.{◌≡◌, ◌≤◌, ℕ, List, length, Option, Some, None, Result, Ok, Err, inl, inr, subst, sym}
use Rattle.std.specs.Option.{IsSomeAnd}
use Rattle.std.specs.Result.{IfErr, IsErrAnd}
use Rattle.elf_image.specs.declared.image.Segment.{Segment}
use Rattle.elf_image.specs.declared.image.ImageFault.{ImageFault}
use Rattle.elf_image.specs.declared.image.ImageFault.TheVariants.{Elf, Memory}
use Rattle.elf_image.specs.Image.{image_of, ImageFails}
use Rattle.elf_symbols.specs.declared.find.FindFault.{FindFault}
use Rattle.elf_symbols.specs.declared.find.FindFault.TheVariants as find
use Rattle.dream_outside.specs.Causes.{Store}
use Rattle.dream_top.specs.CommandLine.{Target}
use Rattle.dream_top.specs.Answers.{limit, Reading, Holds, Loads, range_in, IsNotElf, IsNoFunction, Refuses}
use Rattle.dream_top.specs.Loading.{image_status, find_status}

some_such : {A : Type 0} (o : Option A) (P Q : A → Type 0) → ((x : A) → P x → Q x) → IsSomeAnd o P → IsSomeAnd o Q
some_such None P Q f h = absurd h
some_such (Some x) P Q f h = f x h

-- held bytes that are such are such in any weaker way
pub holds_such : (held : Store) (path : List ℕ) (P Q : List ℕ → Type 0) → ((bytes : List ℕ) → P bytes → Q bytes) → Holds held path P → Holds held path Q
holds_such None path P Q f h = tt
holds_such (Some files) path P Q f h = some_such (files path) P Q f h

-- a file that was loaded as some bytes is such as these bytes are
pub loads_such : (i : Reading) (path bytes : List ℕ) (P : List ℕ → Type 0) → Loads i path (λ all. all ≡ bytes) → P bytes → Loads i path P
loads_such i path bytes P l p = record {
  got = l.got;
  held = holds_such i.held path (λ all. (length all ≤ limit) × (all ≡ bytes)) (λ all. (length all ≤ limit) × P all)
      (λ all h. (h.0, subst P (sym h.1) p)) l.held;
}

-- ---- a file that was loaded is refused

-- by the fault of its image
pub refuses_image : (i : Reading) (f : Target) (bytes : List ℕ) (fault : ImageFault) → Loads i f.path (λ all. all ≡ bytes) → ImageFails (image_of bytes) fault
    → Refuses (image_status fault) i f
refuses_image i f bytes (Elf fault) l e = loads_such i f.path bytes (λ all. IsNotElf all f.func fault) l (inl e)
refuses_image i f bytes Memory l e = tt

-- by what FUNC says
pub refuses_func : (i : Reading) (f : Target) (bytes : List ℕ) (m : List Segment) (why : FindFault) → Loads i f.path (λ all. all ≡ bytes) → image_of bytes ≡ Ok m
    → range_in bytes f.func ≡ Err why → Refuses (find_status why) i f
refuses_func i f bytes m (find.Elf fault) l image none =
    loads_such i f.path bytes (λ all. IsNotElf all f.func fault) l (inr record { m = m; image = image; range = none })
refuses_func i f bytes m find.NoFunction l image none =
    loads_such i f.path bytes (λ all. IsNoFunction all f.func) l record { m = m; image = image; range = none }

-- an error that is this one
pub such_error : {T E : Type 0} (r : Result T E) (e : E) (P : E → Type 0) → IsErrAnd r (λ x. x ≡ e) → P e → IfErr r P
such_error (Ok x) e P is p = tt
such_error (Err x) e P is p = subst P (sym is) p
