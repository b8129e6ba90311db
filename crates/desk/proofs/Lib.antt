mod RangeLaws
