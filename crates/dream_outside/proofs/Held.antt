-- Looking a path up in a list of files.
use Rattle.std.proofs.Common.{◌≡◌, ℕ, zero, suc, ◌<◌, List, [], ◌∷◌, length, get_or, drop, Some, true, refl, sym, ◌∙◌, arith, string_bytes}
use Rattle.std.specs.Str.{bytes_eq}
use Rattle.dream_outside.specs.declared.mem_files.MemFile.{MemFile}
use Rattle.dream_outside.specs.MemFiles.{bytes_at, opened}

-- the file at a place, if it has the path, is what is found from that place on
pub found_from : (fs : List MemFile) (i : ℕ) (path : List ℕ) (f : MemFile) → i < length fs → f ≡ get_or fs i f → bytes_eq (string_bytes f.path) path ≡ true → bytes_at (drop i fs) path ≡ Some (opened fs i)
found_from [] i path f lt e h = absurd (omega arith)
found_from (g ∷ gs) zero path f lt e h = rw (rw e at h) refl
found_from (g ∷ gs) (suc i) path f lt e h = found_from gs i path f (omega arith) e h

pub found_at : (fs : List MemFile) (i : ℕ) (path : List ℕ) (f : MemFile) → i < length fs → f ≡ get_or fs i f → bytes_eq (string_bytes f.path) path ≡ true → bytes_at (drop i fs) path ≡ bytes_at fs path → bytes_at fs path ≡ Some (opened fs i)
found_at fs i path f lt e h none = sym none ∙ found_from fs i path f lt e h
