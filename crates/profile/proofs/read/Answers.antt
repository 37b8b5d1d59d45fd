-- The length, then part by part: what is there, or its refusal.
use mathlib.Core.Path.{sym, ◌∙◌}
use Rattle.choices.proofs.Exits.{exit-error}
use Rattle.profile.proofs.StageAnswers.{profile-too-long, at-order, at-version, at-host, at-port, at-key, at-components}
use Rattle.profile.proofs.read.Goals as goal

pub returns-then-s-gt-LIMIT : goal.returns-then-s-gt-LIMIT
returns-then-s-gt-LIMIT c = sym (profile-too-long c.args.s.now c.if-s-gt-LIMIT.true)

pub returns-in_err-order : goal.returns-in_err-order
returns-in_err-order c =
    exit-error c.from_residual.ensures.1 ∙ sym (at-order c.args.s.now c.if-s-gt-LIMIT.false _ (sym c.order_at.ensures ∙ c.in_err-order.was))

pub returns-in_err-major : goal.returns-in_err-major
returns-in_err-major c =
    let one = sym c.order_at.ensures ∙ c.in_ok-order.was in
    exit-error c.from_residual-in_err-major.ensures.1
    ∙ sym (at-version c.args.s.now c.if-s-gt-LIMIT.false one _ (sym c.version_at.ensures ∙ c.in_err-major.was))

pub returns-in_err-host : goal.returns-in_err-host
returns-in_err-host c =
    let one = sym c.order_at.ensures ∙ c.in_ok-order.was in
    let two = sym c.version_at.ensures ∙ c.in_ok-major.was in
    exit-error c.from_residual-in_err-host.ensures.1
    ∙ sym (at-host c.args.s.now c.if-s-gt-LIMIT.false one two _ (sym c.host_at.ensures ∙ c.in_err-host.was))

pub returns-in_err-port : goal.returns-in_err-port
returns-in_err-port c =
    let one = sym c.order_at.ensures ∙ c.in_ok-order.was in
    let two = sym c.version_at.ensures ∙ c.in_ok-major.was in
    let three = sym c.host_at.ensures ∙ c.in_ok-host.was in
    exit-error c.from_residual-in_err-port.ensures.1
    ∙ sym (at-port c.args.s.now c.if-s-gt-LIMIT.false one two three _ (sym c.port_at.ensures ∙ c.in_err-port.was))

pub returns-in_err-key : goal.returns-in_err-key
returns-in_err-key c =
    let one = sym c.order_at.ensures ∙ c.in_ok-order.was in
    let two = sym c.version_at.ensures ∙ c.in_ok-major.was in
    let three = sym c.host_at.ensures ∙ c.in_ok-host.was in
    let four = sym c.port_at.ensures ∙ c.in_ok-port.was in
    exit-error c.from_residual-in_err-key.ensures.1
    ∙ sym (at-key c.args.s.now c.if-s-gt-LIMIT.false one two three four _ (sym c.key_at.ensures ∙ c.in_err-key.was))

pub returns-in_err-components : goal.returns-in_err-components
returns-in_err-components c =
    let one = sym c.order_at.ensures ∙ c.in_ok-order.was in
    let two = sym c.version_at.ensures ∙ c.in_ok-major.was in
    let three = sym c.host_at.ensures ∙ c.in_ok-host.was in
    let four = sym c.port_at.ensures ∙ c.in_ok-port.was in
    let five = sym c.key_at.ensures ∙ c.in_ok-key.was in
    exit-error c.from_residual-in_err-components.ensures.1
    ∙ sym (at-components c.args.s.now c.if-s-gt-LIMIT.false one two three four five _ (sym c.list_at.ensures ∙ c.in_err-components.was))

pub returns : goal.returns
returns c =
    let one = sym c.order_at.ensures ∙ c.in_ok-order.was in
    let two = sym c.version_at.ensures ∙ c.in_ok-major.was in
    let three = sym c.host_at.ensures ∙ c.in_ok-host.was in
    let four = sym c.port_at.ensures ∙ c.in_ok-port.was in
    let five = sym c.key_at.ensures ∙ c.in_ok-key.was in
    sym (at-components c.args.s.now c.if-s-gt-LIMIT.false one two three four five _ (sym c.list_at.ensures ∙ c.in_ok-components.was))
