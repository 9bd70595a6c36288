pub mod MosheFigures
