use Rattle.std.proofs.Common.{◌≡◌, ◌-◌, rules, [], refl, ap, arith}
use Rattle.edit_text.specs.Reading.{many_at, tag_at}
use Rattle.edit_text.specs.Checking.{last_key}
use Rattle.edit_text.proofs.CheckedTags.{tags_on, tags_key_fault, tags_value_fault, tags_whole}
use Rattle.edit_text.proofs.checked_tags.check_each_tag.Goals as goal

pub loop-init : goal.loop-init
unfolding last_key
loop-init c =
    let all : c.args.count - 0 ≡ c.args.count = omega arith in
    record { text = search rules; tags = ([], refl, ap (λ n. many_at tag_at n [] c.args.bytes.now) all) }

pub read_next_key-requires-text-last : goal.read_next_key-requires-text-last
read_next_key-requires-text-last c = λ _. c.loop.invariant.text

pub returns-in_err-key : goal.returns-in_err-key
returns-in_err-key c =
    let stops = tags_key_fault c.args.count c.loop.counter c.loop.last.now c.loop.rest.now c.args.bytes.now c.loop.invariant.tags c.loop-test.true
    c.in_err-key.field-0.0 c.in_err-key.ensures in
    search (rules, stops)

pub returns-in_err-rest : goal.returns-in_err-rest
returns-in_err-rest c =
    let stops = tags_value_fault c.args.count c.loop.counter c.loop.last.now c.loop.rest.now c.args.bytes.now c.loop.invariant.tags c.loop-test.true
    c.in_ok-key.key.now c.in_ok-key.value.now c.in_err-rest.field-0.0 c.in_ok-key.ensures c.in_err-rest.ensures in
    search (rules, stops)

pub loop-preserved : goal.loop-preserved
loop-preserved c = record {
  text = search rules;
  tags = tags_on c.args.count c.loop.counter c.loop.last.now c.loop.rest.now c.args.bytes.now c.loop.invariant.tags c.loop-test.true
      c.in_ok-key.key.now c.in_ok-key.value.now c.in_ok-rest.rest.now c.in_ok-key.ensures c.in_ok-rest.ensures;
}

pub returns : goal.returns
returns c = tags_whole c.args.count c.loop.counter c.loop.last.now c.loop.rest.now c.args.bytes.now c.loop-test.false c.loop.invariant.tags
