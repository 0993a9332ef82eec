-- What it is to list keys in dictionary order. Assumes nothing.
use Rattle.std.specs.Prelude.{◌≡◌, ℕ, ◌⊎◌, ◌↔◌, List, [], ◌∷◌, ◌++◌}
use Rattle.theory.specs.Keys.{Standard}
pub use Rattle.exchange.specs.Dictionary.{Before}
use Rattle.opening.specs.declared.Shape.{Shape}
use Rattle.opening.specs.Shapes.{layers_of, homes_of}
use Rattle.finding.specs.Walks.{standard_keys}

-- x is one of the list
abbrev pub In : {X : Type 0} → X → List X → Type 0
In x [] = ⊥
In x (y ∷ ys) = (x ≡ y) ⊎ In x ys

-- the key begins with the columns
abbrev pub Begins : List ℕ → List ℕ → Type 0
Begins columns key = (cs : List ℕ) × (key ≡ columns ++ cs)

-- each key comes before all that stand behind it
abbrev pub Rising : List (List ℕ) → Type 0
Rising [] = Unit {0}
Rising (key ∷ keys) = ((other : List ℕ) → In other keys → Before key other) × Rising keys

-- the list has exactly the keys of a kind, each once, in rising dictionary order
pub record Listed (Kind : List ℕ → Type 0) (keys : List (List ℕ)) : Type 0 where
  pub members : (key : List ℕ) → In key keys ↔ Kind key
  pub rising : Rising keys

-- the standard keys of a shape
abbrev pub StandardIn : Shape → List ℕ → Type 0
StandardIn shape key = Standard (layers_of shape) (homes_of shape) key

-- the keys of a walk are the standard keys of its shape
abbrev pub ListingFact : Type 0
ListingFact = (shape : Shape) → Listed (StandardIn shape) (standard_keys shape)
