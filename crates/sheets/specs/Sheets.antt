-- What an action sheet describes.
use Rattle.sheets.specs.declared.action_sheet.ActionSheet.{ActionSheet}
use Rattle.sheets.specs.Laws.{Description}

-- its fluents and actions, and its laws of either kind
abbrev pub description : ActionSheet → Description
description s = record {
  fluents = s.fluents;
  actions = s.actions;
  statics = s.statics.items;
  dynamics = s.dynamics.items;
}
