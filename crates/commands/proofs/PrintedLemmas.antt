-- What a command printed, a writer that is flushed behind it, and what was told of a refusal.
use Rattle.std.proofs.Common.{◌≡◌, ◌∙◌, ◌⊎◌, ℕ, [], IfErr, IfOk, List, OnOk, Option, Result, Ok, Err, arith, inl, inr, subst, sym}
use Rattle.std.specs.Io.KnownBytes.{Appends, Keeps}
use Rattle.std.proofs.KnownBytes.{Appends-kept, Keeps-refl}
use Rattle.command_ends.specs.Faults.{IsOfStream}
use Rattle.command_ends.specs.Texts.{Tells}
use Rattle.command_ends.specs.declared.fault.Fault.{Fault}
use Rattle.command_words.specs.declared.outcome.Command.{Command}
use Rattle.command_words.specs.declared.outcome.Command.TheVariants.{Replay}
use Rattle.queue_core.specs.World.{empty_queue}
use Rattle.replay.specs.Replay.{Replays, first, settings}
use Rattle.replay.specs.Session.{State}
use Rattle.commands.specs.Printed.{HasPrinted, Prints}
use Rattle.commands.specs.Refusals.{IsTold, MayBePrintedBy, MayBeToldBy}
use Rattle.commands.specs.declared.work.Work.{Work}
use Rattle.commands.specs.declared.work.Work.TheVariants.{Import, Expire, Operators}

-- what was printed stays as it is where the writer is flushed
pub prints_kept : (work : Work) (a b c : Option (List ℕ)) → Keeps b c → Prints work a b → Prints work a c
prints_kept (Import words) a b c kept p = (p.0, Appends-kept a b c _ p.1 kept)
prints_kept (Expire words) a b c kept p = (p.0, Appends-kept a b c _ p.1 kept)
prints_kept (Operators work) a b c kept p = Appends-kept a b c _ p kept
prints_kept _ a b c kept p = (p.0, p.1, Appends-kept a b c _ p.2 kept)

-- a replay printed the answers to the lines of its input
pub replayed : (input : Option (List ℕ)) (status : ℕ) (a b c : Option (List ℕ)) → Keeps b c
    → (last : State) × (text : List ℕ) × Replays input (first (empty_queue settings)) status text last × Appends a b text → HasPrinted Replay status a c
replayed input status a b c kept it = (input, it.0, it.1, it.2, Appends-kept a b c _ it.3 kept)

-- what was told of a command that ended with status 1, and what it has printed
pub told_of : {E : Type 0} (contents : E → Option (List ℕ)) (old new : E) (asked : Command) (before after : Option (List ℕ)) (left : List ℕ) (outcome : Result ℕ Fault) (status : ℕ)
    → IfOk outcome (λ own. (status ≡ own) × (new ≡ old)) → IfErr outcome (λ fault. Tells fault (contents old) (contents new))
    → IfOk outcome (λ own. own ≡ 1 → asked ≡ Replay) → IfErr outcome (MayBeToldBy asked)
    → IfOk outcome (λ own. HasPrinted asked own before after) → OnOk outcome (left ≡ []) → IfErr outcome (λ fault. IsOfStream fault ⊎ MayBePrintedBy asked before after)
    → status ≡ 1 → IsTold asked (contents old) (contents new) before after left
told_of {E = E} contents old new asked before after left (Ok own) status done told replay may printed handed quiet one =
    let is : own ≡ 1 = sym done.0 ∙ one in
    let bad : asked ≡ Replay = replay is in
    inr (
      bad,
      subst (λ (z : E). Keeps (contents old) (contents z)) (sym done.1) (Keeps-refl (contents old)),
      subst (λ (z : Command). HasPrinted z 1 before after) bad (subst (λ (n : ℕ). HasPrinted asked n before after) is printed),
      handed,
    )
told_of contents old new asked before after left (Err fault) status done told replay may printed handed quiet one = inl (fault, may, told, quiet)

-- what was told where a text that was asked for could not be
pub untold : {E : Type 0} (contents : E → Option (List ℕ)) (old between new : E) (outcome : Result ℕ Fault) (status : ℕ)
    → IfOk outcome (λ own. (status ≡ own) × (new ≡ between)) → IfErr outcome (λ fault. Tells fault (contents between) (contents new))
    → IfOk outcome (λ own. own ≡ 0) → IfErr outcome IsOfStream → between ≡ old → status ≡ 1 → (fault : Fault) × IsOfStream fault × Tells fault (contents old) (contents new)
untold contents old between new (Ok own) status done told zero stream same one =
    let its : status ≡ own = done.0 in
    let none : own ≡ 0 = zero in
    absurd (omega arith)
untold {E = E} contents old between new (Err fault) status done told zero stream same one =
    (fault, stream, subst (λ (z : E). Tells fault (contents z) (contents new)) same told)
