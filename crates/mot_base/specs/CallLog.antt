-- A call as the code hands it to its log.
use Rattle.mot_base.specs.Calls.{FileCall}
use Rattle.mot_base.specs.declared.call_log.CallMade.{CallMade}

-- the call that the log keeps
abbrev pub call_of : CallMade → FileCall
call_of made = record { action = made.action; name = made.name.now; failed = made.failed }
