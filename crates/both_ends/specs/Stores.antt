-- Stores, one after another: the bytes after them, and what is answered to each.
-- Assumes nothing.
use Rattle.std.specs.Prelude.{◌≡◌, ℕ, Bool, if◌then◌else◌, List, [], ◌∷◌, map, Result}
use Rattle.memory.specs.Storage.{store_answer, stored}
use Rattle.memory.specs.declared.fault.MemoryFault.{MemoryFault}
use Rattle.both_ends.specs.declared.stores.Store.{Store}

-- the bytes after these stores
abbrev pub all_stored : List ℕ → List Store → List ℕ
all_stored bytes [] = bytes
all_stored bytes (store ∷ stores) = all_stored (stored bytes store.address store.byte) stores

-- all of these stores, or none
abbrev pub all_or_none : Bool → List ℕ → List Store → List ℕ
all_or_none done bytes stores = if done then all_stored bytes stores else bytes

-- all of these stores were carried out, or none was
abbrev pub Unfinished : List ℕ → List ℕ → List Store → Type 0
Unfinished before after stores = (done : Bool) × (after ≡ all_or_none done before stores)

-- Each is refused or not by its address alone, since no store changes how many bytes there are.
abbrev pub answers : List ℕ → List Store → List (Result (Unit {0}) MemoryFault)
answers bytes stores = map (λ store. store_answer bytes store.address) stores
