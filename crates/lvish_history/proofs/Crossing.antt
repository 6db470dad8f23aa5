-- Stamps and a history may go to another thread: what they say of values exists in the proofs alone, and is of no thread.
use denote.Param.Send.{IsSend, sendable}
use denote.RattleType.{RattleType}
use Rattle.lvish_history.specs.contracts.history.History as History
use Rattle.lvish_history.specs.contracts.log.Log as Log
use Rattle.lvish_history.specs.contracts.log.Seen as Seen
use Rattle.lvish_history.specs.contracts.stamp.Stamp as Stamp
use Rattle.lvish_history.specs.declared.origin.Origin as origin
use Rattle.lvish_history.proofs.Logs.{log_keyless, seen_keyless}

pub log_send : (V : RattleType) → IsSend (Log.the_row V)
log_send V = record { owned = λ d vs. ((λ vss. (tt, ((λ uss. (tt, tt)), tt))), log_keyless V.coded.code d.book d.values); leaving = λ k f vs. tt }

pub seen_send : (V : RattleType) → IsSend (Seen.the_row V)
seen_send V = record { owned = λ d vs. ((λ vss. (tt, ((λ uss. (tt, tt)), tt))), seen_keyless V.coded.code d.book d.values); leaving = λ k f vs. tt }

pub stamp_send : (V O : RattleType) → IsSend O → (o : origin.Ghosts O.Denot) → IsSend (Stamp.the_row V O o)
stamp_send V O s o = search (seen_send, sendable) depth 24

pub history_send : (V O : RattleType) → IsSend O → (o : origin.Ghosts O.Denot) → IsSend (History.the_row V O o)
history_send V O s o = search (log_send, sendable) depth 24
