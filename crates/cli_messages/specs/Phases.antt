-- A call goes through phases. What each of them gives, how it may stop, and what causes the stop.
use Rattle.std.specs.Prelude.{None, Some, ◌≡◌, ◌⊎◌, ℕ, List, Contains, Option, Result, Ok, Err, Bool, false, option_map}
use Rattle.outside_core.specs.Results as results
use Rattle.outside_core.specs.Results.{Meaning, exact, free}
use Rattle.outside_core.specs.Counts.{Increased}
use Rattle.cli_messages.specs.declared.answers.Reason.TheVariants.{WrongWords, NoSuchFile}
use Rattle.cli_messages.specs.declared.answers.Refusal.{Refusal}
use Rattle.cli_messages.specs.declared.answers.Stop.{Stop}
use Rattle.cli_messages.specs.declared.answers.Stop.TheVariants.{Refused, FileFault, InputFault, NoMemory}

-- ---- how the code relates to it

-- What a stop says of what is defined: its refusal; a fault and running out of memory say nothing.
abbrev pub meaning_of : Stop → Meaning Refusal
meaning_of (Refused refusal) = exact refusal
meaning_of (FileFault name) = free
meaning_of InputFault = free
meaning_of NoMemory = free

-- A phase that stopped was refused as it is defined.
abbrev pub Stops : {Y : Type 0} → Stop → Result Y Refusal → Type 0
Stops stop defined = results.Fails (meaning_of stop) defined

-- A phase gave what it is defined to give, as it is seen, or stopped.
abbrev pub Returns : {X Y : Type 0} → (X → Y) → Result X Stop → Result Y Refusal → Type 0
Returns seen result defined = results.Returns meaning_of seen result defined

-- What a phase takes from a stream, the input or the dice: what it gives, and what is left.
pub record StreamAnswer (A : Type 0) : Type 0 where
  pub answer : Result A Refusal
  pub left : List ℕ

-- What a phase gives, and what it leaves.
abbrev pub with_left : {A : Type 0} → Result A Refusal → List ℕ → StreamAnswer A
with_left answer left = record { answer = answer; left = left }

-- The phase after one that gave this and left that.
abbrev pub after_left : {A B : Type 0} → Result A Refusal → List ℕ
    → (A → List ℕ → StreamAnswer B) → StreamAnswer B
after_left (Ok a) left next = next a left
after_left (Err refusal) left next = record { answer = Err refusal; left = left }

-- One phase, and then the next on what it left.
abbrev pub then_left : {A B : Type 0} → StreamAnswer A → (A → List ℕ → StreamAnswer B)
    → StreamAnswer B
then_left taken next = after_left taken.answer taken.left next

-- A phase that takes from a stream was refused as it is defined, and left what is defined.
abbrev pub RefusesStream : {Y : Type 0} → Stop → Option (List ℕ) → StreamAnswer Y → Type 0
RefusesStream (Refused refusal) left defined = (defined.answer ≡ Err refusal)
    × (left ≡ Some defined.left)
RefusesStream (FileFault name) left defined = Unit {0}
RefusesStream InputFault left defined = Unit {0}
RefusesStream NoMemory left defined = Unit {0}

-- A phase took from a stream what it is defined to take, or stopped.
abbrev pub ReturnsStream : {X Y : Type 0} → (X → Y) → Result X Stop → Option (List ℕ)
    → StreamAnswer Y → Type 0
ReturnsStream seen (Ok x) left defined = (defined.answer ≡ Ok (seen x)) × (left ≡ Some defined.left)
ReturnsStream seen (Err stop) left defined = RefusesStream stop left defined

-- This is left of a stream, as it reports; or it reports nothing, and nothing is asked of it.
abbrev pub TellsStream : Bool → Option (List ℕ) → List ℕ → Type 0
TellsStream asked (Some left) stream = left ≡ stream
TellsStream asked None stream = asked ≡ false

-- Of a stream is left what is defined, if it reports what is left.
abbrev pub IsLeft : Option (List ℕ) → Option (List ℕ) → List ℕ → Type 0
IsLeft before now defined = now ≡ option_map (λ left. defined) before

-- A phase that may take from a stream was refused as it is defined, and left what is defined.
abbrev pub RefusesAskedStream : {Y : Type 0} → Stop → (before now : Option (List ℕ))
    → StreamAnswer Y → Type 0
RefusesAskedStream (Refused refusal) before now defined = (defined.answer ≡ Err refusal)
    × IsLeft before now defined.left
RefusesAskedStream (FileFault name) before now defined = Unit {0}
RefusesAskedStream InputFault before now defined = Unit {0}
RefusesAskedStream NoMemory before now defined = Unit {0}

-- A phase took from a stream what it is defined to take, if anything, or stopped.
abbrev pub ReturnsAskedStream : {X Y : Type 0} → (X → Y) → Result X Stop
    → (before now : Option (List ℕ)) → StreamAnswer Y → Type 0
ReturnsAskedStream seen (Ok x) before now defined = (defined.answer ≡ Ok (seen x))
    × IsLeft before now defined.left
ReturnsAskedStream seen (Err stop) before now defined = RefusesAskedStream stop before now defined

-- What is left of the input is what is defined, unless the input or the dice failed or memory ran
-- out.
abbrev pub Leaves : {X : Type 0} → Result X Stop → (before now : Option (List ℕ)) → List ℕ → Type 0
Leaves (Ok x) before now defined = IsLeft before now defined
Leaves (Err (Refused refusal)) before now defined = IsLeft before now defined
Leaves (Err (FileFault name)) before now defined = IsLeft before now defined
Leaves (Err InputFault) before now defined = Unit {0}
Leaves (Err NoMemory) before now defined = Unit {0}

-- ---- stops and their causes

-- A stop at the words.
abbrev pub IsWordsStop : Stop → Type 0
IsWordsStop (Refused refusal) = refusal.reason ≡ WrongWords
IsWordsStop (FileFault name) = ⊥
IsWordsStop InputFault = ⊥
IsWordsStop NoMemory = Unit {0}

-- A stop at the input or the dice, which failed only where their count of faults rose.
abbrev pub IsStreamStop : (faults faults' : ℕ) → Stop → Type 0
IsStreamStop faults faults' (Refused refusal) = ¬ (refusal.reason ≡ NoSuchFile)
IsStreamStop faults faults' (FileFault name) = ⊥
IsStreamStop faults faults' InputFault = Increased faults faults'
IsStreamStop faults faults' NoMemory = Unit {0}

-- A fault of the store at the file of this name.
abbrev pub IsFault : Stop → List ℕ → Type 0
IsFault (Refused refusal) name = ⊥
IsFault (FileFault given) name = given ≡ name
IsFault InputFault name = ⊥
IsFault NoMemory name = Unit {0}

-- A stop because memory ran out.
abbrev pub IsMemoryStop : Stop → Type 0
IsMemoryStop (Refused refusal) = ⊥
IsMemoryStop (FileFault name) = ⊥
IsMemoryStop InputFault = ⊥
IsMemoryStop NoMemory = Unit {0}

-- A stop that no file is missing at, and no object of the outside fails.
abbrev pub IsPlainStop : Stop → Type 0
IsPlainStop (Refused refusal) = ¬ (refusal.reason ≡ NoSuchFile)
IsPlainStop (FileFault name) = ⊥
IsPlainStop InputFault = ⊥
IsPlainStop NoMemory = Unit {0}

-- A stop at a file: it is called missing only where the store's count of absences rose, and a fault
-- is reported only where its count of faults rose, and of one of these files.
abbrev pub IsFileStop : List (List ℕ) → (faults faults' absences absences' : ℕ) → Stop → Type 0
IsFileStop names faults faults' absences absences' (Refused refusal) = refusal.reason ≡ NoSuchFile
    → Increased absences absences'
IsFileStop names faults faults' absences absences' (FileFault name) = Increased faults faults'
    × Contains names name
IsFileStop names faults faults' absences absences' InputFault = ⊥
IsFileStop names faults faults' absences absences' NoMemory = Unit {0}

-- A stop before a command is carried out: at a file, or at the input, which failed only where its
-- count of faults rose.
abbrev pub IsEarlyStop : List (List ℕ) → (faults faults' absences absences' input input' : ℕ)
    → Stop → Type 0
IsEarlyStop names faults faults' absences absences' input input' (Refused refusal) =
    refusal.reason ≡ NoSuchFile → Increased absences absences'
IsEarlyStop names faults faults' absences absences' input input' (FileFault name) =
    Increased faults faults' × Contains names name
IsEarlyStop names faults faults' absences absences' input input' InputFault = Increased input input'
IsEarlyStop names faults faults' absences absences' input input' NoMemory = Unit {0}

-- A stop at the file of this name, which is written, or at the dice: each failed only where its
-- count of faults rose.
abbrev pub IsCommandStop : List ℕ → (faults faults' dice dice' : ℕ) → Stop → Type 0
IsCommandStop name faults faults' dice dice' (Refused refusal) = ¬ (refusal.reason ≡ NoSuchFile)
IsCommandStop name faults faults' dice dice' (FileFault given) = (given ≡ name)
    × Increased faults faults'
IsCommandStop name faults faults' dice dice' InputFault = Increased dice dice'
IsCommandStop name faults faults' dice dice' NoMemory = Unit {0}

-- A stop of a call: at a file, at the input or at the dice, each of which failed only where its
-- count of faults rose.
abbrev pub IsCaused : List (List ℕ)
    → (faults faults' absences absences' input input' dice dice' : ℕ) → Stop → Type 0
IsCaused names faults faults' absences absences' input input' dice dice' (Refused refusal) =
    refusal.reason ≡ NoSuchFile → Increased absences absences'
IsCaused names faults faults' absences absences' input input' dice dice' (FileFault name) =
    Increased faults faults' × Contains names name
IsCaused names faults faults' absences absences' input input' dice dice' InputFault =
    Increased input input' ⊎ Increased dice dice'
IsCaused names faults faults' absences absences' input input' dice dice' NoMemory = Unit {0}
