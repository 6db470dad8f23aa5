-- Andersen's constraints, and their least solution.
use Rattle.std.specs.Prelude.{List, Contains}
use Rattle.lvish_facts.specs.Names.{Word}
use Rattle.lvish_pointing.specs.declared.fact.Kind.{Kind}
use Rattle.lvish_pointing.specs.declared.fact.Kind.TheVariants.{Address, Copy, Load, Store}
use Rattle.lvish_pointing.specs.declared.fact.Fact.{Fact}

-- the constraint of a fact on who points to whom: p = &x, p = q, p = *q and *p = q
abbrev pub IsMetAs : {N : Type 0} → (N → N → Type 0) → Kind → N → N → Type 0
IsMetAs points Address p x = points p x
IsMetAs {N} points Copy p q = (x : N) → points q x → points p x
IsMetAs {N} points Load p q = (x y : N) → points q x → points x y → points p y
IsMetAs {N} points Store p q = (x y : N) → points p x → points q y → points x y

abbrev pub IsMet : {N : Type 0} → (N → N → Type 0) → Fact N → Type 0
IsMet points f = IsMetAs points f.kind f.left f.right

-- the constraints of all of the facts are met
abbrev pub Solves : {N : Type 0} → (N → N → Type 0) → List (Fact N) → Type 0
Solves {N} points facts = (f : Fact N) → Contains facts f → IsMet points f

-- a solution as a list: each pointer with each name that it points to
abbrev pub IsSolution : List (Word × Word) → List (Fact Word) → Type 0
IsSolution pairs facts = Solves (λ p x. Contains pairs (p, x)) facts

-- the pointer points to the name in every solution
abbrev pub IsInEvery : List (Fact Word) → Word → Word → Type 0
IsInEvery facts p x = (pairs : List (Word × Word)) → IsSolution pairs facts → Contains pairs (p, x)
