use Rattle.aiger.proofs.Trees.{search_starts, search_absent, search_present, search_steps}
use Rattle.aiger.proofs.tree.find.Goals as goal

pub loop-node-init : goal.loop-node-init
loop-node-init c =
    search_starts c.args.x c.args.n c.args.keys.now c.args.links.now c.requires

pub returns-then-keys-node : goal.returns-then-keys-node
returns-then-keys-node c =
    search_present c.args.x c.args.n c.args.keys.now c.args.links.now c.requires c.loop-node.slot c.loop-node.rest c.loop-node.node c.loop-node.invariant c.loop-node-test.true c.if-keys-node.true

pub loop-node-preserved : goal.loop-node-preserved
loop-node-preserved c =
    search_steps c.args.x c.args.n c.args.keys.now c.args.links.now c.requires c.loop-node.slot c.loop-node.rest c.loop-node.node c.loop-node.invariant c.loop-node-test.true c.if-keys-node.false

pub returns : goal.returns
returns c =
    search_absent c.args.x c.args.n c.args.keys.now c.args.links.now c.requires c.loop-node.slot c.loop-node.rest c.loop-node.node c.loop-node.invariant c.loop-node-test.false
