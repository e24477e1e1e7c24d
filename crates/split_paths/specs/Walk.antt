-- A list of events as a walk by an agenda of paths.
use Rattle.std.specs.Prelude.{◌≡◌, ◌≢◌, Contains, ℕ, zero, suc, ◌+◌, ◌<◌, List, [], ◌∷◌, ◌++◌}
use Rattle.std.specs.List.{AllByRecursion}
use Rattle.split_paths.specs.declared.event.Event.{Event}
use Rattle.split_paths.specs.declared.event.Event.TheVariants.{Split, Leaf}

-- the path at which an event is met
abbrev pub path_of : {L : Type 0} → Event L → List ℕ
path_of (Split path kids) = path
path_of (Leaf path outcome) = path

-- the paths of so many children, numbered from i
abbrev pub numbered_paths : List ℕ → ℕ → ℕ → List (List ℕ)
numbered_paths path i zero = []
numbered_paths path i (suc n) = (path ++ i ∷ []) ∷ numbered_paths path (i + 1) n

-- the paths that an event puts onto the agenda
abbrev pub paths_below : {L : Type 0} → Event L → List (List ℕ)
paths_below (Split path kids) = numbered_paths path 1 kids
paths_below (Leaf path outcome) = []

-- a split has a child
abbrev pub HasKids : {L : Type 0} → Event L → Type 0
HasKids (Split path kids) = 0 < kids
HasKids (Leaf path outcome) = Unit {0}

-- a walk by this agenda meets these events: each at the agenda's first path, whose place is then
-- taken by the paths below it
abbrev pub Visits : {L : Type 0} → List (List ℕ) → List (Event L) → Type 0
Visits agenda [] = agenda ≡ []
Visits [] (event ∷ events) = ⊥
Visits (path ∷ agenda) (event ∷ events) =
    (path_of event ≡ path) × HasKids event × Visits (paths_below event ++ agenda) events

-- no event has the path
abbrev pub IsFresh : {L : Type 0} → List ℕ → List (Event L) → Type 0
IsFresh path events = AllByRecursion (λ event. path_of event ≢ path) events

-- no two events have one path
abbrev pub AreApart : {L : Type 0} → List (Event L) → Type 0
AreApart [] = Unit {0}
AreApart (event ∷ events) = IsFresh (path_of event) events × AreApart events

-- an event of the list has the path
abbrev pub HasEventAt : {L : Type 0} → List (Event L) → List ℕ → Type 0
HasEventAt {L} events path = (event : Event L) × Contains events event × (path_of event ≡ path)
