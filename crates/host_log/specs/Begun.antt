-- A call that was begun as the definitions see it.
use Rattle.std.specs.Prelude.{◌≡◌}
use Rattle.wopi_model.specs.Moment.{IsMoment}
use Rattle.host_core.specs.Entries.{Asked, asked_as, kept_act}
use Rattle.host_log.specs.declared.begun.Begun.TheInside.{Inside}

abbrev pub asked_of : Inside → Asked
asked_of b = asked_as b.stamp b.pass b.moment b.time b.call.value

-- what is kept is the call's, and the times are moments
pub record IsBegun (b : Inside) : Type 0 where
  pub name : b.name ≡ b.call.value.name
  pub token : b.token ≡ b.call.value.token
  pub act : b.act ≡ kept_act b.call.value.act
  pub moment_is : IsMoment b.moment
  pub time_is : IsMoment b.time
