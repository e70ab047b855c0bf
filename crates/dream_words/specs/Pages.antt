-- Pages, and which of them may be read or written (Intel SDM vol. 3, 4.3). A page is an address divided by 4,096.
use Rattle.std.specs.Prelude.{◌≡◌, ◌<◌, ◌≤◌, ℕ, zero, suc, ◌+◌, ◌*◌, ◌/◌, ◌%◌, ◌^◌, nat_le, nat_lt, ◌&&◌, ◌||◌, Bool, true, false, Option, Some, None, List, [], ◌∷◌, if◌then◌else◌}
use Rattle.dream_words.specs.declared.pages.PageRun.{PageRun}
use Rattle.dream_words.specs.declared.pages.Pages.{Pages}

-- the page of an address
abbrev pub page_of : ℕ → ℕ
page_of a = a / 4096

-- a run of pages has the page, in whole numbers
abbrev pub is_in_run : ℕ → PageRun → Bool
is_in_run page run = nat_le run.first page && nat_lt page (run.first + run.count)

-- some run has the page
abbrev pub is_in : ℕ → List PageRun → Bool
is_in page [] = false
is_in page (run ∷ runs) = is_in_run page run || is_in page runs

-- The address of the first of k bytes from an address on whose page isn't in the list. Addresses wrap around.
unfoldable pub first_bad : List PageRun → ℕ → ℕ → Option ℕ
first_bad runs a zero = None
first_bad runs a (suc k) = if is_in (page_of (a % 2 ^ 32)) runs then first_bad runs (a + 1) k else Some (a % 2 ^ 32)

-- every page, in one run
abbrev pub every_page : List PageRun
every_page = record { first = 0; count = 2 ^ 20 } ∷ []

-- every page may be read and written
abbrev pub all_pages : Pages
all_pages = record { read = every_page; write = every_page }

-- Where all pages are allowed no access is refused.
abbrev pub AllPagesAllowAll : Type 0
AllPagesAllowAll = (a k : ℕ) → first_bad every_page a k ≡ None

-- Of k bytes from a on, this is the address of the first one whose page isn't in the list.
pub record IsFirstBad (runs : List PageRun) (at k a : ℕ) : Type 0 where
  -- how many bytes stand before it
  pub place : ℕ
  pub inside : place < k
  pub address : a ≡ (at + place) % 2 ^ 32
  pub refused : is_in (page_of a) runs ≡ false
  pub before : (j : ℕ) → j < place → is_in (page_of ((at + j) % 2 ^ 32)) runs ≡ true

-- What is answered is the first byte that isn't allowed; and where none is answered all are allowed.
pub record FirstBadIsExact : Type 0 where
  pub some : (runs : List PageRun) (at k a : ℕ) → first_bad runs at k ≡ Some a → IsFirstBad runs at k a
  pub none : (runs : List PageRun) (at k : ℕ) → first_bad runs at k ≡ None → (j : ℕ) → j < k → is_in (page_of ((at + j) % 2 ^ 32)) runs ≡ true
  pub all : (runs : List PageRun) (at k : ℕ) → ((j : ℕ) → j < k → is_in (page_of ((at + j) % 2 ^ 32)) runs ≡ true) → first_bad runs at k ≡ None
