-- What the judges of the three sheets note, as the functions that answer take it.
use Rattle.std.specs.Prelude.{ℕ, ◌≡◌, List}
use Rattle.rules.specs.Sheet.{Bytes, Usable}
use Rattle.rules.specs.declared.Format.{Format}
use Rattle.rules.specs.Directory.{Directory}
use Rattle.rules.specs.Decision.{Setting}
use Rattle.rules.specs.Serve.{Ground}
use Rattle.name.specs.Schema.{Rising}
use Rattle.tables.specs.Book.{width, schema}
use Rattle.tables.specs.World.{Entries}
use Rattle.access_items.specs.Sorted.{Sorted}

-- the accepted directory `x` of the sheet `d` in the format `f`, by the book and the rows of the values held
pub record DirectoryAt (f : Format) (d : Bytes) (x : Directory) (book held : List ℕ) : Type 0 where
  pub usable : Usable f
  pub columns : width book ≡ f.width
  pub entries : (σ : Setting) → σ.schema ≡ x.schema → Entries σ x.entries d book held
  pub rising : Rising 0 (schema book)

-- the ground `g` of the sheets `d` and `p`: with it the items' rows, and their numbers in order of weight
pub record GroundAt (f : Format) (d p : Bytes) (g : Ground) (book held rights scopes order : List ℕ) : Type 0 where
  pub directory : DirectoryAt f d g.directory book held
  pub items : Sorted (width book) p g.items rights scopes order
