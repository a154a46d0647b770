-- The book as it is filled, column by column, each from its place on; and what it then stands for.
use Rattle.std.specs.Prelude.{ℕ, ◌+◌, ◌≡◌, List, ◌++◌, map, take, drop, set}
use Rattle.rules.specs.Sheet.{Bytes}
use Rattle.rules.specs.declared.Format.{Format}
use Rattle.rules.specs.Judge.{accept}
use Rattle.rules.specs.Directory.{Directory, directory_of}
use Rattle.rules.specs.Decision.{Setting}
use Rattle.tables.specs.Book.{schema_column, place_column, parent_column, naming_column, length_column, first_column, target_column}
use Rattle.sheet_line.specs.Line.{place_of}
use Rattle.tables.specs.World.{Entries}
use Rattle.directory_sheet.specs.declared.Notes.{Notes}
use Rattle.directory_sheet.specs.Judged.{DirectoryNoted}

-- the first `n` numbers of `column` in the place of what stands in the table from `at` on
unfoldable pub column_put : List ℕ → ℕ → List ℕ → ℕ → List ℕ
column_put table at column n = (take at table ++ take n column) ++ drop (at + n) table

-- where the naming values begin, by where their lines do
unfoldable pub places_of : ℕ → List ℕ → List ℕ
places_of w lines = map (place_of w) lines

-- the width and the counts, and then the columns in their order
unfoldable pub filled : ℕ → Notes → List ℕ → List ℕ
filled w r b =
    let n = r.count in
    let counts = set (set (set b 0 w) 1 r.types) 2 n in
    let types = column_put counts schema_column r.schema r.types in
    let entries = column_put (column_put (column_put (column_put types place_column (places_of w r.at) n) parent_column r.parents n) naming_column r.naming n) length_column r.lengths n in
    column_put (column_put entries first_column r.first (n + 1)) target_column r.targets n

-- the notes are of an accepted directory
abbrev pub OfDirectory : Format → Notes → Type 0
OfDirectory f r = (d : Bytes) × (x : Directory) × (held : List ℕ) × (directory_of f d ≡ accept x) × DirectoryNoted f.width d x r held

-- whatever accepted directory the notes are of, the book stands for it
abbrev pub StandsFor : Format → Notes → List ℕ → Type 0
StandsFor f r b = (σ : Setting) (d : Bytes) (x : Directory) (held : List ℕ) → directory_of f d ≡ accept x → DirectoryNoted f.width d x r held → σ.schema ≡ x.schema → Entries σ x.entries d b held
