use Rattle.schedule_text.proofs.FittingLines.{first_nobody, lock_presents, one_nobody, put_nobody, refresh_presents, relock_presents, two_nobody, unlock_presents}
use Rattle.schedule_text.proofs.fitting.is_of_nobody.Goals as goal

pub returns-in-Put : goal.returns-in-Put
returns-in-Put c = λ body.
    put_nobody c.args.sessions.now body c.in-Put.lock c.args.op.now c.is_lock_of_nobody.result c.in-Put.is c.is_lock_of_nobody.ensures

pub returns-in-Lock : goal.returns-in-Lock
returns-in-Lock c = λ body.
    one_nobody c.args.sessions.now body c.in-Lock.id c.args.op.now c.is_of_session.result (lock_presents body c.in-Lock.id c.args.op.now c.in-Lock.is) c.is_of_session.ensures

pub returns-in-Refresh : goal.returns-in-Refresh
returns-in-Refresh c = λ body.
    one_nobody c.args.sessions.now body c.in-Refresh.id c.args.op.now c.is_of_session-in-Refresh.result (refresh_presents body c.in-Refresh.id c.args.op.now c.in-Refresh.is) c.is_of_session-in-Refresh.ensures

pub returns-in-Unlock : goal.returns-in-Unlock
returns-in-Unlock c = λ body.
    one_nobody c.args.sessions.now body c.in-Unlock.id c.args.op.now c.is_of_session-in-Unlock.result (unlock_presents body c.in-Unlock.id c.args.op.now c.in-Unlock.is) c.is_of_session-in-Unlock.ensures

pub returns-then-not-is_of_session : goal.returns-then-not-is_of_session
returns-then-not-is_of_session c = λ body.
    two_nobody c.args.sessions.now body c.in-Relock.old c.in-Relock.id c.args.op.now c.is_of_session-in-Relock.result c.is_of_session-then-not-is_of_session.result
    (relock_presents body c.in-Relock.old c.in-Relock.id c.args.op.now c.in-Relock.is) c.is_of_session-in-Relock.ensures c.is_of_session-then-not-is_of_session.ensures
    c.if-not-is_of_session.true

pub returns-else-not-is_of_session : goal.returns-else-not-is_of_session
returns-else-not-is_of_session c = λ body.
    first_nobody c.args.sessions.now body c.in-Relock.old c.in-Relock.id c.args.op.now c.is_of_session-in-Relock.result
    (relock_presents body c.in-Relock.old c.in-Relock.id c.args.op.now c.in-Relock.is) c.is_of_session-in-Relock.ensures c.if-not-is_of_session.false
