-- Workers that leave as they may.
use Rattle.std.proofs.Common.{◌≡◌, ◌≢◌, ◌⊎◌, inl, inr, ◌∙◌, Bool, true, false, Option, Some, Result, Err, sym, refl}
use Rattle.std.proofs.lemmas.Bool.{false≢true}
use Rattle.lvish_run.specs.declared.fault.RunFault.{RunFault}
use Rattle.lvish_run.specs.declared.fault.RunFault.TheVariants.{NoThread, Stopped, Mixed}
use Rattle.lvish_run.specs.declared.leave.Leave.{Leave}
use Rattle.lvish_run.specs.declared.leave.Leave.TheVariants.{Over, Others, Stopped as AsStopped, Memory as ForMemory, Missing}
use Rattle.lvish_run.specs.Crew.{MayLeave, fault_of}

-- a gate whose idle turn answers false isn't patient
pub impatient : (patient : Bool) → (patient ≡ true → false ≡ true) → patient ≡ false
impatient true answers = absurd (false≢true (answers refl))
impatient false answers = refl

-- at a patient gate nobody is stopped
pub not_stopped : (patient : Bool) (why : Leave) → MayLeave patient why → patient ≡ true → why ≢ AsStopped
not_stopped patient Over may is same = cc
not_stopped patient Others may is same = cc
not_stopped patient AsStopped may is same = false≢true (sym may ∙ is)
not_stopped patient ForMemory may is same = cc
not_stopped patient Missing may is same = may

-- nobody is stopped where a thread is missing
pub missing_is_not_stopped : Missing ≢ AsStopped
missing_is_not_stopped same = cc

pub neither_stopped : (a b worse : Leave) → (worse ≡ a) ⊎ (worse ≡ b) → a ≢ AsStopped → b ≢ AsStopped → worse ≢ AsStopped
neither_stopped a b worse (inl is) one other same = one (sym is ∙ same)
neither_stopped a b worse (inr is) one other same = other (sym is ∙ same)

-- what a worker that left as it may hinders a run with
pub never_mixed : (why : Leave) → fault_of why ≡ Some Mixed → ⊥
never_mixed Over is = cc
never_mixed Others is = cc
never_mixed AsStopped is = cc
never_mixed ForMemory is = cc
never_mixed Missing is = cc

pub never_missing : (patient : Bool) (why : Leave) → MayLeave patient why → fault_of why ≡ Some NoThread → ⊥
never_missing patient Over may is = cc
never_missing patient Others may is = cc
never_missing patient AsStopped may is = cc
never_missing patient ForMemory may is = cc
never_missing patient Missing may is = may

pub stopped_alone : (why : Leave) → fault_of why ≡ Some Stopped → why ≡ AsStopped
stopped_alone Over is = absurd cc
stopped_alone Others is = absurd cc
stopped_alone AsStopped is = refl
stopped_alone ForMemory is = absurd cc
stopped_alone Missing is = absurd cc

-- a worker that left as it may, and the fault that it gives the run
module _ {T : Type 0} (why : Leave) (told : Option RunFault) (fault : RunFault) (is : told ≡ fault_of why) (some : told ≡ Some fault) where
  pub left_not_mixed : ◌≡◌ {A = Result T RunFault} (Err fault) (Err Mixed) → ⊥
  left_not_mixed same = let mixed : fault_of why ≡ Some Mixed = cc in never_mixed why mixed

  pub left_not_missing : (patient : Bool) → MayLeave patient why → ◌≡◌ {A = Result T RunFault} (Err fault) (Err NoThread) → ⊥
  left_not_missing patient may same = let missing : fault_of why ≡ Some NoThread = cc in never_missing patient why may missing

  pub left_not_stopped : why ≢ AsStopped → ◌≡◌ {A = Result T RunFault} (Err fault) (Err Stopped) → ⊥
  left_not_stopped may same = let stopped : fault_of why ≡ Some Stopped = cc in may (stopped_alone why stopped)
