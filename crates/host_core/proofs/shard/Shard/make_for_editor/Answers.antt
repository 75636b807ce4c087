use Rattle.std.proofs.Common.{◌≡◌, max, [], ◌∷◌, ◌++◌, Bool, not, true, false, None, if◌then◌else◌, IfOk, OnOk, refl, sym, subst, ◌∙◌}
use Rattle.wopi_model.specs.Host.{FullFrom}
use Rattle.host_core.specs.Entries.{back_of, brought_by, history_of}
use Rattle.host_core.specs.Facts.{is_late, made_for}
use Rattle.host_core.proofs.shard.Shard.make_for_editor.Goals as goal

pub returns-then-late-clause-entry : goal.returns-then-late-clause-entry
returns-then-late-clause-entry g c =
    let old = c.args.self.now in
    let is : is_late old.begin old.dates (history_of old.made old.time) c.args.call.now c.args.known c.args.moment ≡ true = sym c.is_late-late.ensures ∙ c.if-late.true in
    subst (λ (b : Bool). IfOk c.look_in_stead.result (λ step. c.look_in_stead.new.self ≡ record old { made = old.made ++ record { time = max old.time c.args.moment; step = record { stamp = step.0; pass = c.args.pass; moment = c.args.moment; call = made_for b c.args.call.now; ruling = c.look_in_stead.new.carried.ruling }; told = not (g.F.Store.lost c.look_in_stead.new.self.folder) } ∷ []; time = max old.time c.args.moment; folder = c.look_in_stead.new.self.folder })) (sym is) c.look_in_stead.ensures.entry

pub returns-then-late-clause-late : goal.returns-then-late-clause-late
returns-then-late-clause-late g c =
    let old = c.args.self.now in
    let is : is_late old.begin old.dates (history_of old.made old.time) c.args.call.now c.args.known c.args.moment ≡ true = sym c.is_late-late.ensures ∙ c.if-late.true in
    subst (λ (b : Bool). IfOk c.look_in_stead.result (λ step. step.1 ≡ (if b then brought_by c.args.call.now.act else None))) (sym is) c.look_in_stead.ensures.late

pub returns-then-late-clause-back : goal.returns-then-late-clause-back
returns-then-late-clause-back g c =
    let old = c.args.self.now in
    let is : is_late old.begin old.dates (history_of old.made old.time) c.args.call.now c.args.known c.args.moment ≡ true = sym c.is_late-late.ensures ∙ c.if-late.true in
    subst (λ (b : Bool). OnOk c.look_in_stead.result (c.look_in_stead.new.carried.back ≡ back_of (made_for b c.args.call.now).act c.look_in_stead.new.carried.ruling)) (sym is) c.look_in_stead.ensures.back

pub returns-then-late-clause-room : goal.returns-then-late-clause-room
returns-then-late-clause-room g c =
    let old = c.args.self.now in
    let is : is_late old.begin old.dates (history_of old.made old.time) c.args.call.now c.args.known c.args.moment ≡ true = sym c.is_late-late.ensures ∙ c.if-late.true in
    subst (λ (b : Bool). OnOk c.look_in_stead.result (FullFrom old.limits old.begin (history_of old.made old.time) c.args.floor (made_for b c.args.call.now) c.args.moment → ⊥)) (sym is) c.look_in_stead.ensures.room

pub returns-in-Ok-clause-entry : goal.returns-in-Ok-clause-entry
returns-in-Ok-clause-entry g c =
    let old = c.args.self.now in
    let is : is_late old.begin old.dates (history_of old.made old.time) c.args.call.now c.args.known c.args.moment ≡ false = sym c.is_late-late.ensures ∙ c.if-late.false in
    subst (λ (b : Bool). c.make.new.self ≡ record old { made = old.made ++ record { time = max old.time c.args.moment; step = record { stamp = c.in-Ok.stamp; pass = c.args.pass; moment = c.args.moment; call = made_for b c.args.call.now; ruling = c.make.new.carried.ruling }; told = not (g.F.Store.lost c.make.new.self.folder) } ∷ []; time = max old.time c.args.moment; folder = c.make.new.self.folder }) (sym is) c.in-Ok.ensures.entry

pub returns-in-Ok-clause-late : goal.returns-in-Ok-clause-late
returns-in-Ok-clause-late g c =
    let old = c.args.self.now in
    let is : is_late old.begin old.dates (history_of old.made old.time) c.args.call.now c.args.known c.args.moment ≡ false = sym c.is_late-late.ensures ∙ c.if-late.false in
    subst (λ (b : Bool). None ≡ (if b then brought_by c.args.call.now.act else None)) (sym is) refl

pub returns-in-Ok-clause-back : goal.returns-in-Ok-clause-back
returns-in-Ok-clause-back g c =
    let old = c.args.self.now in
    let is : is_late old.begin old.dates (history_of old.made old.time) c.args.call.now c.args.known c.args.moment ≡ false = sym c.is_late-late.ensures ∙ c.if-late.false in
    subst (λ (b : Bool). c.make.new.carried.back ≡ back_of (made_for b c.args.call.now).act c.make.new.carried.ruling) (sym is) c.in-Ok.ensures.back

pub returns-in-Ok-clause-room : goal.returns-in-Ok-clause-room
returns-in-Ok-clause-room g c =
    let old = c.args.self.now in
    let is : is_late old.begin old.dates (history_of old.made old.time) c.args.call.now c.args.known c.args.moment ≡ false = sym c.is_late-late.ensures ∙ c.if-late.false in
    subst (λ (b : Bool). FullFrom old.limits old.begin (history_of old.made old.time) c.args.floor (made_for b c.args.call.now) c.args.moment → ⊥) (sym is) c.in-Ok.ensures.room
